use Rattle.std.proofs.Common.{◌≡◌, subst, sym}
use Rattle.std.proofs.lemmas.Result.{err_from_is_err_and}
use Rattle.fw_cli.specs.HeadErrors.{IsOfOpening}
use Rattle.fw_cli.proofs.HeadLeading.{not_opened_opening, refused_is_opening}
use Rattle.fw_cli.proofs.Passing.{passed_to}
use Rattle.fw_cli.proofs.Sayings.{changes_none}
use Rattle.fw_cli.proofs.beginning.open_all.Goals as goal

pub returns-in_err-check_all-clause-told : goal.returns-in_err-check_all-clause-told
returns-in_err-check_all-clause-told g c = changes_none _ _ _

pub returns-in_err-check_all-clause-faults : goal.returns-in_err-check_all-clause-faults
returns-in_err-check_all-clause-faults g c =
    let passed = err_from_is_err_and c.from_residual.result c.from_residual.ensures.1 in
    let same : passed.0 ≡ c.in_err-check_all.field-0.0 = cc passed.2 in
    passed_to c.from_residual.result IsOfOpening passed.0 _ passed.1 same (refused_is_opening _ _ _ c.in_err-check_all.field-0.0 c.in_err-check_all.ensures.refused)

pub returns-in-Err-clause-faults : goal.returns-in-Err-clause-faults
returns-in-Err-clause-faults g c = subst IsOfOpening (sym c.not_opened.ensures) (not_opened_opening c.in-Err.error)
