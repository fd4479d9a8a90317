use Rattle.std.proofs.Common.{List, subst}
use Rattle.std.proofs.lemmas.Result.{err_from_is_err_and}
use Rattle.fw_plan.specs.declared.ranges.SerialRange.{SerialRange}
use Rattle.fw_cli.specs.HeadErrors.{IsAskedFor, IsOfJudging}
use Rattle.fw_cli.specs.declared.head_error.HeadFailure.{HeadFailure}
use Rattle.fw_cli.proofs.HeadLeading.{judging_is_asked, new_is_asked}
use Rattle.fw_cli.proofs.Passing.{passed_to}
use Rattle.fw_cli.proofs.head.new_head.Goals as goal

pub returns-in_err-check_absent-clause-asked : goal.returns-in_err-check_absent-clause-asked
returns-in_err-check_absent-clause-asked g c =
    let passed = err_from_is_err_and c.from_residual.result c.from_residual.ensures.1 in
    passed_to c.from_residual.result (λ (f : HeadFailure). IsAskedFor c.args.options.now f.error) passed.0 _ passed.1 passed.2 (new_is_asked c.args.options.now c.in_err-check_absent.field-0.0.error c.requires.is_new)

pub returns-in_err-changes-clause-asked : goal.returns-in_err-changes-clause-asked
returns-in_err-changes-clause-asked g c =
    let passed = err_from_is_err_and c.from_residual-in_err-changes.result c.from_residual-in_err-changes.ensures.1 in
    passed_to c.from_residual-in_err-changes.result (λ (f : HeadFailure). IsAskedFor c.args.options.now f.error) passed.0 _ passed.1 passed.2 (judging_is_asked c.args.options.now c.args.asked.now.opened _ c.requires.opened (subst (λ (l : List SerialRange). IsOfJudging l c.args.asked.now.opened c.in_err-changes.field-0.0) c.deref.ensures.value c.in_err-changes.ensures.faults))
