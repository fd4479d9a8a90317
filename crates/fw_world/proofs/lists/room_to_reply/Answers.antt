use Rattle.std.proofs.Common.{List, Option, Some, None, inl, inr, subst, slice_get}
use Rattle.std.specs.Prelude.{IsSomeAnd}
use Rattle.fw_meter.specs.Handling.{AsksForResponse, MayBringData, MayWantMemory}
use Rattle.fw_world.specs.World.{Datagram}
use Rattle.fw_world.proofs.Places.{told_err}
use Rattle.fw_world.proofs.lists.room_to_reply.Goals as goal

weaker : (o : Option Datagram) (P Q : Datagram → Type 0) → ((d : Datagram) → P d → Q d) → IsSomeAnd o P → IsSomeAnd o Q
weaker None P Q f h = h
weaker (Some d) P Q f h = f d h

pub returns-in_err-asks-clause-memory : goal.returns-in_err-asks-clause-memory
returns-in_err-asks-clause-memory c =
    let may = subst (λ (xs : List Datagram). IsSomeAnd (slice_get xs c.args.number) (λ d. MayBringData d.bytes)) c.deref.ensures.value c.in_err-asks.ensures.memory in
    told_err c.from_residual.result _ (weaker (slice_get c.args.sent.now.items c.args.number) (λ d. MayBringData d.bytes) (λ d. MayWantMemory d.bytes) (λ d h. inl h) may)

pub returns-in_err-reserve-clause-memory : goal.returns-in_err-reserve-clause-memory
returns-in_err-reserve-clause-memory c =
    let asks = subst (λ (xs : List Datagram). IsSomeAnd (slice_get xs c.args.number) (λ d. AsksForResponse d.bytes)) c.deref.ensures.value (c.in_ok-asks.ensures.asks c.if-not-branch.false) in
    told_err c.from_residual-in_err-reserve.result _ (weaker (slice_get c.args.sent.now.items c.args.number) (λ d. AsksForResponse d.bytes) (λ d. MayWantMemory d.bytes) (λ d h. inr h) asks)
