use Rattle.std.proofs.Common.{◌≡◌, Bool, IsTrue, Option, Some, sym, ap, subst, ◌∙◌, slice_get}
use Rattle.std.proofs.lemmas.Result.{IfOk-weaker, on_err_weaker}
use Rattle.std.specs.Prelude.{IfOk, IfSome, IsSomeAnd}
use Rattle.std.specs.Option.{option_copied}
use Rattle.fw_meter.specs.Handling.{AsksForResponse, MayBringData}
use Rattle.fw_world.specs.World.{Datagram}
use Rattle.fw_world.proofs.lists.asks.Goals as goal

pub returns-in-Some-clause-asks : goal.returns-in-Some-clause-asks
returns-in-Some-clause-asks c =
    let at : slice_get c.args.sent.now c.args.number ≡ Some c.in-Some.datagram.now = sym c.sent_at.ensures ∙ ap option_copied c.in-Some.is in
    let carried : c.deref.result.now ≡ c.in-Some.datagram.now.bytes = c.deref.ensures.value ∙ ap (λ (x : Datagram). x.bytes) c.datagram.view_is in
    IfOk-weaker c.asks_for_response.result
    (λ (asks : Bool). IsTrue asks → AsksForResponse c.deref.result.now)
    (λ (asks : Bool). IsTrue asks → IsSomeAnd (slice_get c.args.sent.now c.args.number) (λ d. AsksForResponse d.bytes))
    (λ told h asks. subst (λ (o : Option Datagram). IsSomeAnd o (λ d. AsksForResponse d.bytes)) (sym at) (subst AsksForResponse carried (h asks)))
    c.asks_for_response.ensures.asks

pub returns-in-Some-clause-told : goal.returns-in-Some-clause-told
returns-in-Some-clause-told c =
    let at : slice_get c.args.sent.now c.args.number ≡ Some c.in-Some.datagram.now = sym c.sent_at.ensures ∙ ap option_copied c.in-Some.is in
    let carried : c.deref.result.now ≡ c.in-Some.datagram.now.bytes = c.deref.ensures.value ∙ ap (λ (x : Datagram). x.bytes) c.datagram.view_is in
    let told = c.asks_for_response.result in
    subst (λ (o : Option Datagram). IfSome o (λ d. AsksForResponse d.bytes → IfOk told IsTrue)) (sym at) (λ h. c.asks_for_response.ensures.told (subst AsksForResponse (sym carried) h))

pub returns-in-Some-clause-memory : goal.returns-in-Some-clause-memory
returns-in-Some-clause-memory c =
    let at : slice_get c.args.sent.now c.args.number ≡ Some c.in-Some.datagram.now = sym c.sent_at.ensures ∙ ap option_copied c.in-Some.is in
    let carried : c.deref.result.now ≡ c.in-Some.datagram.now.bytes = c.deref.ensures.value ∙ ap (λ (x : Datagram). x.bytes) c.datagram.view_is in
    on_err_weaker c.asks_for_response.result
    (λ may. subst (λ (o : Option Datagram). IsSomeAnd o (λ d. MayBringData d.bytes)) (sym at) (subst MayBringData carried may))
    c.asks_for_response.ensures.memory
