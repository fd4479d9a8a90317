use Rattle.std.proofs.Common.{◌≡◌, ap}
use Rattle.std.specs.Prelude.{is_some}
use Rattle.std.proofs.lemmas.Result.{err_from_is_err_and}
use Rattle.fw_cli.specs.HeadErrors.{IsAskedFor}
use Rattle.fw_cli.proofs.HeadLeading.{list_is_asked, opening_is_asked}
use Rattle.fw_cli.proofs.Begun.{opening_none, opening_some}
use Rattle.fw_cli.proofs.Passing.{passed_to}
use Rattle.fw_cli.proofs.head.asked_of.Goals as goal

pub returns-in_default-clause-opening : goal.returns-in_default-clause-opening
returns-in_default-clause-opening g c = opening_none c.args.options.now.opening c.in_default.is

pub returns-clause-opening : goal.returns-clause-opening
returns-clause-opening g c =
    opening_some c.args.options.now.opening c.in-Some.opening _ c.in-Some.is c.in_ok-opened.ensures.opened

pub returns-in_err-list-clause-asked : goal.returns-in_err-list-clause-asked
returns-in_err-list-clause-asked g c =
    let passed = err_from_is_err_and c.from_residual.result c.from_residual.ensures.1 in
    passed_to c.from_residual.result (IsAskedFor c.args.options.now) passed.0 _ passed.1 passed.2 (list_is_asked c.args.options.now c.in_err-list.field-0.0)

pub returns-in_err-opened-clause-asked : goal.returns-in_err-opened-clause-asked
returns-in_err-opened-clause-asked g c =
    let passed = err_from_is_err_and c.from_residual-in_err-opened.result c.from_residual-in_err-opened.ensures.1 in
    let same : passed.0 ≡ c.in_err-opened.field-0.0 = cc passed.2 in
    passed_to c.from_residual-in_err-opened.result (IsAskedFor c.args.options.now) passed.0 _ passed.1 same (opening_is_asked c.args.options.now _ (ap is_some c.in-Some.is) c.in_err-opened.ensures.faults)
