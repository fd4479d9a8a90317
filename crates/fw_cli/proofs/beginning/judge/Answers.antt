use Rattle.std.proofs.Common.{◌≡◌}
use Rattle.std.proofs.lemmas.Result.{err_from_is_err_and}
use Rattle.fw_cli.specs.HeadErrors.{IsOfJudging}
use Rattle.fw_cli.proofs.HeadLeading.{cancels_are_judged, opened_is_judged}
use Rattle.fw_cli.proofs.Passing.{passed_to}
use Rattle.fw_cli.proofs.beginning.judge.Goals as goal

pub returns-in_err-cancels-clause-faults : goal.returns-in_err-cancels-clause-faults
returns-in_err-cancels-clause-faults c =
    let passed = err_from_is_err_and c.from_residual.result c.from_residual.ensures.1 in
    passed_to c.from_residual.result (IsOfJudging c.args.named.now c.args.asked.now.opened) passed.0 _ passed.1 passed.2
    (cancels_are_judged c.args.book.now c.args.named.now c.args.asked.now.opened c.in_err-cancels.field-0.0 c.in_err-cancels.ensures.refused)

pub returns-in_err-parts-clause-faults : goal.returns-in_err-parts-clause-faults
returns-in_err-parts-clause-faults c =
    let passed = err_from_is_err_and c.from_residual-in_err-parts.result c.from_residual-in_err-parts.ensures.1 in
    let same : passed.0 ≡ c.in_err-parts.field-0.0 = cc passed.2 in
    passed_to c.from_residual-in_err-parts.result (IsOfJudging c.args.named.now c.args.asked.now.opened) passed.0 _ passed.1 same
    (opened_is_judged c.args.named.now c.args.asked.now.opened _ c.in_err-parts.ensures.faults)

pub returns-in_err-check_opened-clause-faults : goal.returns-in_err-check_opened-clause-faults
returns-in_err-check_opened-clause-faults c =
    let passed = err_from_is_err_and c.from_residual-in_err-check_opened.result c.from_residual-in_err-check_opened.ensures.1 in
    let same : passed.0 ≡ c.in_err-check_opened.field-0.0 = cc passed.2 in
    passed_to c.from_residual-in_err-check_opened.result (IsOfJudging c.args.named.now c.args.asked.now.opened) passed.0 _ passed.1 same
    (opened_is_judged c.args.named.now c.args.asked.now.opened _ c.in_err-check_opened.ensures.faults)
