use Rattle.std.proofs.Common.{◌≡◌, ◌∙◌, ap, Err}
use Rattle.std.proofs.lemmas.Result.{err_from_is_err_and}
use Rattle.fw_cli.specs.Replaying.{MakesNone}
use Rattle.fw_cli.specs.Scripts.{fault_of_replay}
use Rattle.fw_cli.proofs.Replayed.{makes}
use Rattle.fw_cli.proofs.Scripted.{capture_memory, ends_as, input_memory, of_capture_error, of_input_error, uncaptured, unread_input, unreplayed}
use Rattle.fw_cli.proofs.replay.replay_from.Goals as goal

pub returns-in_err-input-clause-ends : goal.returns-in_err-input-clause-ends
returns-in_err-input-clause-ends g c =
    let passed = err_from_is_err_and c.from_residual.result c.from_residual.ensures.1 in
    ends_as c.from_residual.result _ _ _ _ _ _ _ _ _ passed.0 _ passed.1 passed.2.0
    (unread_input MakesNone _ _ _ _ _ (λ e. c.read_input.ensures.memory (c.in_err-input.was ∙ ap Err (input_memory _ e))) c.in_err-input.ensures.reading (of_input_error _))

pub returns-in_err-told-clause-ends : goal.returns-in_err-told-clause-ends
returns-in_err-told-clause-ends g c =
    let passed = err_from_is_err_and c.from_residual-in_err-told.result c.from_residual-in_err-told.ensures.1 in
    let same : passed.0 ≡ c.in_err-told.field-0.0 = cc passed.2 in
    ends_as c.from_residual-in_err-told.result _ _ _ _ _ _ _ _ _ passed.0 _ passed.1 (ap fault_of_replay same)
    (unreplayed MakesNone _ _ _ _ c.in_ok-input.input.items _ c.in_ok-input.ensures.all
    (λ number e. rw c.deref.ensures.value at (c.replay.ensures.bad_line number (c.in_err-told.was ∙ ap Err e)))
    (λ e. rw c.deref.ensures.value at (c.replay.ensures.bad_setup (c.in_err-told.was ∙ ap Err e)))
    (λ e. rw c.deref.ensures.value at (c.replay.ensures.memory (c.in_err-told.was ∙ ap Err e)))
    c.in_err-told.ensures.faults)

pub returns-in_err-write_capture-clause-ends : goal.returns-in_err-write_capture-clause-ends
returns-in_err-write_capture-clause-ends g c =
    let passed = err_from_is_err_and c.from_residual-in_err-write_capture.result c.from_residual-in_err-write_capture.ensures.1 in
    ends_as c.from_residual-in_err-write_capture.result _ _ _ _ _ _ _ _ _ passed.0 _ passed.1 passed.2.0
    (uncaptured MakesNone _ _ _ _ _ c.in_ok-input.input.items _ c.in_ok-input.ensures.all (makes _ _ _ _ _ _ (rw c.deref.ensures.value at c.in_ok-told.ensures.ok))
    c.in_err-write_capture.ensures.asked (λ e. c.write_capture.ensures.silent (c.in_err-write_capture.was ∙ ap Err (capture_memory _ e))) (of_capture_error _))
