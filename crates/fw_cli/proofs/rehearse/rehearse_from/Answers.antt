use Rattle.std.proofs.Common.{◌≡◌, ◌∙◌, ap, Err}
use Rattle.std.proofs.lemmas.Result.{err_from_is_err_and}
use Rattle.fw_cli.specs.Scripts.{MakesNoneFor, fault_of_rehearsal}
use Rattle.fw_cli.proofs.Rehearsed.{uncaptured, untold, writes}
use Rattle.fw_cli.proofs.Scripted.{capture_memory, ends_as, of_capture_error, of_script_error, of_workers, script_line, script_memory, unread}
use Rattle.fw_cli.proofs.rehearse.rehearse_from.Goals as goal

pub returns-in-Ok-clause-ok : goal.returns-in-Ok-clause-ok
returns-in-Ok-clause-ok g c =
    let script = c.in_ok-setup.field-0 in
    writes c.args.trace c.args.air.now.rounds c.args.workers _ _ _ _ _ _ script.setup script.events.items c.in_ok-told.told.world _
    c.in_ok-setup.ensures.ok (rw c.deref.ensures.value at c.in_ok-told.ensures.ok) (rw c.sent.ensures.sent at c.in_ok-write_capture.ensures.written)
    (rw c.as_str.ensures.value at c.in-Ok.ensures.written)

pub returns-in_err-setup-clause-ends : goal.returns-in_err-setup-clause-ends
returns-in_err-setup-clause-ends g c =
    let passed = err_from_is_err_and c.from_residual.result c.from_residual.ensures.1 in
    ends_as c.from_residual.result _ _ _ _ _ _ _ _ _ passed.0 _ passed.1 passed.2.0
    (unread (MakesNoneFor c.args.workers) _ _ _ _ _ (λ number e. c.script_from.ensures.bad_line number (c.in_err-setup.was ∙ ap Err (script_line _ number e)))
    (λ e. c.script_from.ensures.memory (c.in_err-setup.was ∙ ap Err (script_memory _ e))) c.in_err-setup.ensures.reading (of_script_error _))

pub returns-in_err-told-clause-ends : goal.returns-in_err-told-clause-ends
returns-in_err-told-clause-ends g c =
    let script = c.in_ok-setup.field-0 in
    let passed = err_from_is_err_and c.from_residual-in_err-told.result c.from_residual-in_err-told.ensures.1 in
    let same : passed.0 ≡ c.in_err-told.field-0.0 = cc passed.2 in
    ends_as c.from_residual-in_err-told.result _ _ _ _ _ _ _ _ _ passed.0 _ passed.1 (ap fault_of_rehearsal same)
    (untold c.args.workers _ _ _ _ script.setup script.events.items _ c.in_ok-setup.ensures.ok (rw c.deref.ensures.value at c.in_err-told.ensures.unreported) (of_workers _ c.in_err-told.ensures.faults))

pub returns-in_err-write_capture-clause-ends : goal.returns-in_err-write_capture-clause-ends
returns-in_err-write_capture-clause-ends g c =
    let script = c.in_ok-setup.field-0 in
    let passed = err_from_is_err_and c.from_residual-in_err-write_capture.result c.from_residual-in_err-write_capture.ensures.1 in
    ends_as c.from_residual-in_err-write_capture.result _ _ _ _ _ _ _ _ _ passed.0 _ passed.1 passed.2.0
    (uncaptured c.args.workers _ _ _ _ _ script.setup script.events.items _ c.in_ok-setup.ensures.ok c.in_ok-told.ensures.made c.in_err-write_capture.ensures.asked
    (λ e. c.write_capture.ensures.silent (c.in_err-write_capture.was ∙ ap Err (capture_memory _ e))) (of_capture_error _))
