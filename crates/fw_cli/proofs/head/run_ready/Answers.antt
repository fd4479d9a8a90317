use Rattle.std.proofs.Common.{◌≡◌, ◌∙◌, ℕ, List, ap, refl, subst, sym}
use Rattle.std.proofs.lemmas.Result.{err_from_is_err_and}
use Rattle.fw_kept.specs.Head.{book_of}
use Rattle.fw_plan.specs.Openings.{unlisted}
use Rattle.fw_rollout.specs.Counting.{counted_of}
use Rattle.fw_rollout.specs.declared.daemon.Counts.{Counts}
use Rattle.fw_rollout.specs.declared.link.Listed.{Listed}
use Rattle.fw_host.specs.Openings.{listed_meters}
use Rattle.fw_host.specs.Waves.{listed_in, wave_meters}
use Rattle.fw_cli.specs.Beginning.{HasLedTo}
use Rattle.fw_cli.specs.HeadErrors.{ComesBeforeLines, IsAskedFor}
use Rattle.fw_cli.specs.declared.head_error.HeadError.{HeadError}
use Rattle.fw_cli.specs.declared.head_error.HeadFailure.{HeadFailure}
use Rattle.fw_cli.proofs.Begun.{cancels_asked, led_out}
use Rattle.fw_cli.proofs.HeadLeading.{beginning, leading, line_lost, no_memory, stop_later}
use Rattle.fw_cli.proofs.Passing.{passed_to}
use Rattle.fw_cli.proofs.head.run_ready.Goals as goal

pub returns-in_err-tell_listening-clause-silent : goal.returns-in_err-tell_listening-clause-silent
returns-in_err-tell_listening-clause-silent g c =
    let passed = err_from_is_err_and c.from_residual-in_err-tell_listening.result c.from_residual-in_err-tell_listening.ensures.1 in
    passed_to c.from_residual-in_err-tell_listening.result _ passed.0 _ passed.1 passed.2 (λ before. absurd ((line_lost c.args.options.now c.in_err-tell_listening.field-0.0).later before))

pub returns-in_err-tell_listening-clause-asked : goal.returns-in_err-tell_listening-clause-asked
returns-in_err-tell_listening-clause-asked g c =
    let passed = err_from_is_err_and c.from_residual-in_err-tell_listening.result c.from_residual-in_err-tell_listening.ensures.1 in
    passed_to c.from_residual-in_err-tell_listening.result (λ (f : HeadFailure). IsAskedFor c.args.options.now f.error) passed.0 _ passed.1 passed.2 (line_lost c.args.options.now c.in_err-tell_listening.field-0.0).asked

pub returns-in_err-begin-clause-silent : goal.returns-in_err-begin-clause-silent
returns-in_err-begin-clause-silent g c =
    let passed = err_from_is_err_and c.from_residual-in_err-begin.result c.from_residual-in_err-begin.ensures.1 in
    let same : passed.0 ≡ c.in_err-begin.field-0.0 = cc passed.2 in
    passed_to c.from_residual-in_err-begin.result _ passed.0 _ passed.1 same (λ before. absurd ((beginning c.args.options.now _ c.take.result c.in_err-begin.field-0.0.error (cancels_asked _ _ _ _ _ c.requires.changes) (λ some. c.requires.opened (rw c.take.ensures.value at some)) c.in_err-begin.ensures.faults).later before))

pub returns-in_err-begin-clause-asked : goal.returns-in_err-begin-clause-asked
returns-in_err-begin-clause-asked g c =
    let passed = err_from_is_err_and c.from_residual-in_err-begin.result c.from_residual-in_err-begin.ensures.1 in
    let same : passed.0 ≡ c.in_err-begin.field-0.0 = cc passed.2 in
    passed_to c.from_residual-in_err-begin.result (λ (f : HeadFailure). IsAskedFor c.args.options.now f.error) passed.0 _ passed.1 same (beginning c.args.options.now _ c.take.result c.in_err-begin.field-0.0.error (cancels_asked _ _ _ _ _ c.requires.changes) (λ some. c.requires.opened (rw c.take.ensures.value at some)) c.in_err-begin.ensures.faults).asked

pub returns-in_err-catch_up-clause-silent : goal.returns-in_err-catch_up-clause-silent
returns-in_err-catch_up-clause-silent g c =
    let passed = err_from_is_err_and c.from_residual-in_err-catch_up.result c.from_residual-in_err-catch_up.ensures.1 in
    passed_to c.from_residual-in_err-catch_up.result _ passed.0 _ passed.1 passed.2 (λ before. absurd ((no_memory c.args.options.now).later before))

pub returns-in_err-unlisted-clause-silent : goal.returns-in_err-unlisted-clause-silent
returns-in_err-unlisted-clause-silent g c =
    let passed = err_from_is_err_and c.from_residual-in_err-unlisted.result c.from_residual-in_err-unlisted.ensures.1 in
    passed_to c.from_residual-in_err-unlisted.result _ passed.0 _ passed.1 passed.2 (λ before. absurd ((no_memory c.args.options.now).later before))

pub returns-in_err-waves-clause-silent : goal.returns-in_err-waves-clause-silent
returns-in_err-waves-clause-silent g c =
    let passed = err_from_is_err_and c.from_residual-in_err-waves.result c.from_residual-in_err-waves.ensures.1 in
    passed_to c.from_residual-in_err-waves.result _ passed.0 _ passed.1 passed.2 (λ before. absurd ((no_memory c.args.options.now).later before))

pub returns-in_err-daemon-clause-silent : goal.returns-in_err-daemon-clause-silent
returns-in_err-daemon-clause-silent g c =
    let passed = err_from_is_err_and c.from_residual-in_err-daemon.result c.from_residual-in_err-daemon.ensures.1 in
    passed_to c.from_residual-in_err-daemon.result _ passed.0 _ passed.1 passed.2 (λ before. absurd ((stop_later c.args.options.now c.in_err-daemon.field-0.0).later before))

pub returns-in_err-daemon-clause-asked : goal.returns-in_err-daemon-clause-asked
returns-in_err-daemon-clause-asked g c =
    let passed = err_from_is_err_and c.from_residual-in_err-daemon.result c.from_residual-in_err-daemon.ensures.1 in
    passed_to c.from_residual-in_err-daemon.result (λ (f : HeadFailure). IsAskedFor c.args.options.now f.error) passed.0 _ passed.1 passed.2 (stop_later c.args.options.now c.in_err-daemon.field-0.0).asked

pub returns-in-Ok-clause-led : goal.returns-in-Ok-clause-led
returns-in-Ok-clause-led g c =
    let set = c.requires in
    let failed : c.counts.result.failed ≡ (counted_of c.lead.new.daemon).failed = ap (λ (counts : Counts). counts.failed) c.counts.ensures.counts in
    led_out c.args.options.now _ _ _ _ c.args.ready.kept _ _ _ c.lead.new.daemon _ _ set.list.1 set.opening c.take.ensures.value set.number set.width set.changes
    c.in_ok-begin.ensures.begins c.in_ok-daemon.ensures.made (c.in-Ok.ensures.asks ∙ ap listed_in c.in_ok-waves.ensures.waves.list_is) c.in-Ok.ensures.ran_out (c.deref.ensures.value ∙ c.in_ok-unlisted.ensures.rows
    ∙ ap (λ (list : List Listed). unlisted (listed_meters list) (book_of c.begin.new.kept)) c.meters-3.ensures.meters)
    (subst (λ (n : ℕ). HasLedTo c.deref.result.now n c.of.result) failed c.of.ensures)

pub lead-requires-clause-waves : goal.lead-requires-clause-waves
lead-requires-clause-waves g c =
    let waves = c.in_ok-waves.ensures.waves in
    record { list_is = refl; meters = waves.meters ∙ ap wave_meters (sym waves.list_is); max_is = waves.max_is }

pub returns-clause-silent : goal.returns-clause-silent
returns-clause-silent g c =
    let is = leading c.args.options.now c.in-Err.failure.error c.in-Err.ensures.asked in
    λ before. absurd (is.later (subst (λ (e : HeadError). ComesBeforeLines e) c.of_book.ensures.error before))

pub returns-clause-asked : goal.returns-clause-asked
returns-clause-asked g c =
    let is = leading c.args.options.now c.in-Err.failure.error c.in-Err.ensures.asked in
    subst (λ (e : HeadError). IsAskedFor c.args.options.now e) (sym c.of_book.ensures.error) is.asked

pub returns-in_err-strangers-clause-asked : goal.returns-in_err-strangers-clause-asked
returns-in_err-strangers-clause-asked g c =
    let passed = err_from_is_err_and c.from_residual.result c.from_residual.ensures.1 in
    passed_to c.from_residual.result (λ (f : HeadFailure). IsAskedFor c.args.options.now f.error) passed.0 _ passed.1 passed.2 tt

pub returns-in_err-catch_up-clause-asked : goal.returns-in_err-catch_up-clause-asked
returns-in_err-catch_up-clause-asked g c =
    let passed = err_from_is_err_and c.from_residual-in_err-catch_up.result c.from_residual-in_err-catch_up.ensures.1 in
    passed_to c.from_residual-in_err-catch_up.result (λ (f : HeadFailure). IsAskedFor c.args.options.now f.error) passed.0 _ passed.1 passed.2 tt

pub returns-in_err-unlisted-clause-asked : goal.returns-in_err-unlisted-clause-asked
returns-in_err-unlisted-clause-asked g c =
    let passed = err_from_is_err_and c.from_residual-in_err-unlisted.result c.from_residual-in_err-unlisted.ensures.1 in
    passed_to c.from_residual-in_err-unlisted.result (λ (f : HeadFailure). IsAskedFor c.args.options.now f.error) passed.0 _ passed.1 passed.2 tt

pub returns-in_err-waves-clause-asked : goal.returns-in_err-waves-clause-asked
returns-in_err-waves-clause-asked g c =
    let passed = err_from_is_err_and c.from_residual-in_err-waves.result c.from_residual-in_err-waves.ensures.1 in
    passed_to c.from_residual-in_err-waves.result (λ (f : HeadFailure). IsAskedFor c.args.options.now f.error) passed.0 _ passed.1 passed.2 tt
