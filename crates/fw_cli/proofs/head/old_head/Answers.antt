use Rattle.std.proofs.Common.{◌∙◌, List, Option, ap, subst}
use Rattle.std.proofs.lemmas.Result.{err_from_is_err_and}
use Rattle.fw_head.specs.Head.{Head}
use Rattle.fw_kept.specs.Head.{book_of}
use Rattle.fw_plan.specs.declared.ranges.SerialRange.{SerialRange}
use Rattle.fw_host.specs.Waves.{listed_in}
use Rattle.fw_host.specs.declared.sealing.SealingOptions.{SealingOptions}
use Rattle.fw_cli.specs.Beginning.{AreChanges}
use Rattle.fw_cli.specs.Faults.{MakesCounter}
use Rattle.fw_cli.specs.HeadErrors.{IsAskedFor, IsOfJudging}
use Rattle.fw_cli.specs.Sealing.{IsKeyed}
use Rattle.fw_cli.specs.declared.head_error.HeadFailure.{HeadFailure}
use Rattle.fw_cli.proofs.Begun.{changes_in}
use Rattle.fw_cli.proofs.HeadLeading.{capture_is_asked, counters_are_asked, judging_is_asked, old_is_asked, sealing_is_asked}
use Rattle.fw_cli.proofs.Passing.{passed_to}
use Rattle.fw_cli.proofs.head.old_head.Goals as goal

pub returns-in_err-kept-clause-asked : goal.returns-in_err-kept-clause-asked
returns-in_err-kept-clause-asked g c =
    let passed = err_from_is_err_and c.from_residual.result c.from_residual.ensures.1 in
    passed_to c.from_residual.result (λ (f : HeadFailure). IsAskedFor c.args.options.now f.error) passed.0 _ passed.1 passed.2 (old_is_asked c.args.options.now c.in_err-kept.field-0.0.error c.requires.is_old)

pub returns-in_err-changes-clause-asked : goal.returns-in_err-changes-clause-asked
returns-in_err-changes-clause-asked g c =
    let passed = err_from_is_err_and c.from_residual-in_err-changes.result c.from_residual-in_err-changes.ensures.1 in
    passed_to c.from_residual-in_err-changes.result (λ (f : HeadFailure). IsAskedFor c.args.options.now f.error) passed.0 _ passed.1 passed.2 (judging_is_asked c.args.options.now c.args.asked.now.opened _ c.requires.opened (subst (λ (l : List SerialRange). IsOfJudging l c.args.asked.now.opened c.in_err-changes.field-0.0) c.deref.ensures.value c.in_err-changes.ensures.faults))

pub returns-in_err-links-clause-asked : goal.returns-in_err-links-clause-asked
returns-in_err-links-clause-asked g c =
    let passed = err_from_is_err_and c.from_residual-in_err-links.result c.from_residual-in_err-links.ensures.1 in
    passed_to c.from_residual-in_err-links.result (λ (f : HeadFailure). IsAskedFor c.args.options.now f.error) passed.0 _ passed.1 passed.2 (sealing_is_asked c.args.options.now c.in_err-links.field-0.0.error (subst (λ (s : Option SealingOptions). IsKeyed s c.in_err-links.field-0.0.error) c.requires.keyed c.in_err-links.ensures.keyed))

pub returns-in_err-file-clause-asked : goal.returns-in_err-file-clause-asked
returns-in_err-file-clause-asked g c =
    let passed = err_from_is_err_and c.from_residual-in_err-file.result c.from_residual-in_err-file.ensures.1 in
    passed_to c.from_residual-in_err-file.result (λ (f : HeadFailure). IsAskedFor c.args.options.now f.error) passed.0 _ passed.1 passed.2 (capture_is_asked c.args.options.now c.in_err-file.field-0.0.error c.in_err-file.ensures.asked)

pub returns-in_err-sealing-clause-asked : goal.returns-in_err-sealing-clause-asked
returns-in_err-sealing-clause-asked g c =
    let passed = err_from_is_err_and c.from_residual-in_err-sealing.result c.from_residual-in_err-sealing.ensures.1 in
    passed_to c.from_residual-in_err-sealing.result (λ (f : HeadFailure). IsAskedFor c.args.options.now f.error) passed.0 _ passed.1 passed.2 (counters_are_asked c.args.options.now c.in_err-sealing.field-0.0.error (subst MakesCounter c.requires.keyed (c.in_ok-links.ensures.makes c.in_err-sealing.ensures.made)))

pub returns-clause-links : goal.returns-clause-links
returns-clause-links g c = c.in_ok-sealing.ensures.links ∙ c.in_ok-links.ensures.links

pub returns-clause-changes : goal.returns-clause-changes
returns-clause-changes g c =
    changes_in c.view.result.book.now (book_of c.in_ok-kept.kept) _ _ _ _ (c.view.ensures.book ∙ ap (λ (h : Head). h.book) c.head.ensures)
    (subst (λ (l : List SerialRange). AreChanges c.view.result.book.now l c.args.asked.now.opened (listed_in c.args.asked.now.list) c.in_ok-changes.changes) c.deref.ensures.value
    c.in_ok-changes.ensures.changes)
