use Rattle.std.proofs.Common.{◌≡◌, ℕ, Err, ap, sym, ◌∙◌, subst}
use Rattle.std.proofs.lemmas.Result.{err_from_is_err_and}
use Rattle.fw_capture.specs.declared.fault.CaptureFault.{CaptureFault}
use Rattle.fw_capture.specs.declared.whole.Front.{Front}
use Rattle.fw_capture.specs.Reading.{header_at}
use Rattle.fw_capture.specs.Private.{IsFront}
use Rattle.fw_capture.specs.Whole.{IsForeignAt}
use Rattle.fw_capture.proofs.Filling.{filled_first}
use Rattle.fw_capture.proofs.Wholeness.{opened, goes_on, ends, ends_foreign, no_foreign, no_header, same_header}
use Rattle.fw_capture.proofs.whole.whole_len.Goals as goal

pub returns-in_err-fill-clause-foreign : goal.returns-in_err-fill-clause-foreign
returns-in_err-fill-clause-foreign g c = λ capture is offset found.
    let passed = err_from_is_err_and c.from_residual.result c.from_residual.ensures.1 in
    no_foreign c.from_residual.result passed.0 c.in_err-fill.field-0.0 offset passed.1 passed.2 c.in_err-fill.ensures.faults found

pub returns-in_err-fill-clause-header : goal.returns-in_err-fill-clause-header
returns-in_err-fill-clause-header g c = λ capture is fault found.
    let passed = err_from_is_err_and c.from_residual.result c.from_residual.ensures.1 in
    no_header c.from_residual.result passed.0 c.in_err-fill.field-0.0 fault passed.1 passed.2 c.in_err-fill.ensures.faults found

pub returns-in-Err-clause-header : goal.returns-in-Err-clause-header
returns-in-Err-clause-header g c = λ capture is fault found.
    let first = filled_first 24 _ _ c.new-bytes.result.items c.fill.new.bytes.items capture c.new-bytes.ensures.items c.in_ok-fill.ensures.fills is in
    let same : c.in-Err.fault ≡ fault = cc in
    ap header_at first.2 ∙ same_header c.fill.new.bytes.items first.0 first.4 ∙ ap header_at (sym c.deref.ensures.value) ∙ sym c.in-Err.ensures.exact
    ∙ ap (λ (e : CaptureFault). Err e) same

pub records-init : goal.records-init
records-init g c = λ capture is.
    let first = filled_first 24 _ _ c.new-bytes.result.items c.fill.new.bytes.items capture c.new-bytes.ensures.items c.in_ok-fill.ensures.fills is in
    opened capture c.fill.new.bytes.items first.0 c.in-Ok.format _ first.2 first.1 (rw c.deref.ensures.value at c.in-Ok.ensures.len) first.3
    (ap header_at (sym c.deref.ensures.value) ∙ sym c.in-Ok.ensures.exact)

pub returns-in_err-size-clause-foreign : goal.returns-in_err-size-clause-foreign
returns-in_err-size-clause-foreign g c = λ capture is offset found.
    let passed = err_from_is_err_and c.from_residual-in_err-size.result c.from_residual-in_err-size.ensures.1 in
    no_foreign c.from_residual-in_err-size.result passed.0 c.in_err-size.field-0.0 offset passed.1 passed.2 c.in_err-size.ensures.faults found

pub returns-in_err-size-clause-header : goal.returns-in_err-size-clause-header
returns-in_err-size-clause-header g c = λ capture is fault found.
    let passed = err_from_is_err_and c.from_residual-in_err-size.result c.from_residual-in_err-size.ensures.1 in
    no_header c.from_residual-in_err-size.result passed.0 c.in_err-size.field-0.0 fault passed.1 passed.2 c.in_err-size.ensures.faults found

pub records-preserved : goal.records-preserved
records-preserved g c = λ capture is.
    let so_far = c.records.invariant capture is in
    let P : Front → Type 0 = λ x. IsFront c.in-Ok.format so_far.last.rest (g.R.Read.remaining c.next_front.new.reader) x in
    goes_on capture c.in-Ok.format c.records.offset c.in-Whole.size c.in-Some.end _ (g.R.Read.remaining c.next_front.new.reader) so_far
    (subst P c.in-Whole.is (c.in_ok-size.ensures.next so_far.last.rest so_far.left)) c.in-Some.ensures.1

pub returns-in-Last-clause-whole : goal.returns-in-Last-clause-whole
returns-in-Last-clause-whole g c = λ capture is.
    let so_far = c.records.invariant capture is in
    let P : Front → Type 0 = λ x. IsFront c.in-Ok.format so_far.last.rest (g.R.Read.remaining c.next_front.new.reader) x in
    ends capture c.in-Ok.format c.records.offset _ (g.R.Read.remaining c.next_front.new.reader) so_far
    (subst P c.in-Last.is (c.in_ok-size.ensures.next so_far.last.rest so_far.left))

pub returns-in-Foreign-clause-foreign : goal.returns-in-Foreign-clause-foreign
returns-in-Foreign-clause-foreign g c = λ capture is offset found.
    let so_far = c.records.invariant capture is in
    let P : Front → Type 0 = λ x. IsFront c.in-Ok.format so_far.last.rest (g.R.Read.remaining c.next_front.new.reader) x in
    let Q : ℕ → Type 0 = λ n. IsForeignAt capture n in
    let same : c.records.offset ≡ offset = cc in
    subst Q same (ends_foreign capture c.in-Ok.format c.records.offset _ so_far (subst P c.in-Foreign.is (c.in_ok-size.ensures.next so_far.last.rest so_far.left)))
