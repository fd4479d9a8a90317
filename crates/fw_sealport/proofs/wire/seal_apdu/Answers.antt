use Rattle.std.proofs.Common.{rules, ◌≡◌, ◌+◌, ◌<◌, ℕ, List, length, IfErr, Err, ap, subst, sym}
use Rattle.fw_wrapper.specs.Wrapper.{max_apdu}
use Rattle.fw_seal.specs.Refusal.{IsRefusal, refusal_of}
use Rattle.fw_seal.specs.Sealing.{CounterRange, IsShortSealing}
use Rattle.fw_sealport.proofs.WireFacts.{join_refused, seal_refused}
use Rattle.fw_sealport.specs.Counts.{IfUnsealed, sealing_refusal, wrapping_refusal}
use Rattle.fw_sealport.specs.Sealed.{NoneSeals}
use Rattle.fw_wrapper.specs.declared.error.WrapError.{WrapError}
use Rattle.fw_sealport.proofs.wire.seal_apdu.Goals as goal

pub returns-in_err-sealing-clause-refused : goal.returns-in_err-sealing-clause-refused
returns-in_err-sealing-clause-refused c =
    let ends = c.args.link.now in
    let apdu = c.args.apdu.now in
    let error = c.in_err-sealing.field-0.0 in
    let same : c.from_residual.result ≡ Err (sealing_refusal error) = search rules in
    let refusal : IsRefusal (refusal_of apdu (record { next = c.args.number; end = c.args.number + 1 })) error =
    subst (λ (r : CounterRange). IsRefusal (refusal_of apdu r) error) c.reserved-counters.ensures c.in_err-sealing.ensures.refused in
    subst (λ r. IfErr r (λ e. IfUnsealed e (NoneSeals ends apdu))) (sym same) (seal_refused ends c.args.number apdu error refusal)

pub returns-in_err-wire-clause-refused : goal.returns-in_err-wire-clause-refused
returns-in_err-wire-clause-refused c =
    let ends = c.args.link.now in
    let apdu = c.args.apdu.now in
    let inner = c.in_ok-sealing.sealing.items in
    let error = c.in_err-wire.field-0.0 in
    let same : c.from_residual-in_err-wire.result ≡ Err (wrapping_refusal error) = search rules in
    let shown : c.deref.result.now ≡ inner = search rules in
    let sealed : IsShortSealing ends.keys ends.own c.args.number apdu inner =
    subst (λ (r : CounterRange). IsShortSealing ends.keys ends.own r.next apdu inner) c.reserved-counters.ensures c.in_ok-sealing.ensures.sealed in
    subst (λ r. IfErr r (λ e. IfUnsealed e (NoneSeals ends apdu))) (sym same)
    (join_refused ends c.args.number apdu inner error sealed
    (λ is. subst (λ (l : List ℕ). max_apdu < length l) shown (c.in_err-wire.ensures.too_long.0 (ap (λ (e : WrapError). Err e) is))) c.in_err-wire.ensures.refused)
