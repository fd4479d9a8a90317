use Rattle.std.proofs.Common.{◌≡◌, ◌<◌, ◌+◌, ◌∷◌, length, drop, suc, add-one, ap, sym, ◌∙◌, drop-cons, inl, inr, arith}
use Rattle.std.proofs.lemmas.List.{drop_all}
use Rattle.std.proofs.lemmas.Result.{err_from_is_err_and}
use Rattle.fw_world.specs.World.{Datagram}
use Rattle.fw_recording.proofs.Records.{begins, goes_on, ends, refuses}
use Rattle.fw_recording.proofs.recording.append_records.Goals as goal

pub records-init : goal.records-init
records-init c = begins c.args.sent.now c.args.capture.now.items

pub records-preserved : goal.records-preserved
records-preserved c =
    let sent = c.args.sent.now in
    let number = c.records.number in
    let d = c.index-sent-number.result in
    let inside : number < length sent = omega arith in
    let cut : drop number sent ≡ d ∷ drop (number + 1) sent =
    rw add-one (drop-cons sent number d inside ∙ ap (λ (first : Datagram). first ∷ drop (suc number) sent) (sym c.index-sent-number.is)) in
    goes_on sent number d c.args.capture.now.items c.records.capture.items c.append_record.new.capture.items c.records.invariant cut c.in_ok-append_record.ensures.record

pub returns-in_err-append_record-clause-refused : goal.returns-in_err-append_record-clause-refused
returns-in_err-append_record-clause-refused c =
    let sent = c.args.sent.now in
    let number = c.records.number in
    let d = c.index-sent-number.result in
    let inside : number < length sent = omega arith in
    let cut : drop number sent ≡ d ∷ drop (number + 1) sent =
    rw add-one (drop-cons sent number d inside ∙ ap (λ (first : Datagram). first ∷ drop (suc number) sent) (sym c.index-sent-number.is)) in
    let e = c.in_err-append_record.field-0.0 in
    let p = err_from_is_err_and c.from_residual.result c.from_residual.ensures.1 in
    rw (p.1, p.2) (elim c.in_err-append_record.ensures.refused [
      | inl memory ↦ inl memory
      | inr refused ↦ inr (refuses sent number d c.args.capture.now.items c.records.capture.items e c.records.invariant cut refused)
    ])

pub returns-clause-records : goal.returns-clause-records
returns-clause-records c =
    let sent = c.args.sent.now in
    ends sent c.records.number c.args.capture.now.items c.records.capture.items c.records.invariant (drop_all c.records.number sent (omega arith))
