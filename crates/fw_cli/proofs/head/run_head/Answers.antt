use Rattle.std.proofs.lemmas.Result.{err_from_is_err_and}
use Rattle.fw_cli.specs.HeadErrors.{IsAskedFor}
use Rattle.fw_cli.specs.declared.head_error.HeadFailure.{HeadFailure}
use Rattle.fw_cli.proofs.HeadLeading.{files_lost}
use Rattle.fw_cli.proofs.Passing.{passed_to}
use Rattle.fw_cli.proofs.head.run_head.Goals as goal

pub returns-in_err-begun-clause-silent : goal.returns-in_err-begun-clause-silent
returns-in_err-begun-clause-silent g c =
    let passed = err_from_is_err_and c.from_residual-in_err-begun.result c.from_residual-in_err-begun.ensures.1 in
    passed_to c.from_residual-in_err-begun.result _ passed.0 _ passed.1 passed.2 (λ before. absurd ((files_lost c.args.options.now c.in_err-begun.field-0.0 c.in_err-begun.ensures.output).later before))

pub returns-in_err-begun-clause-asked : goal.returns-in_err-begun-clause-asked
returns-in_err-begun-clause-asked g c =
    let passed = err_from_is_err_and c.from_residual-in_err-begun.result c.from_residual-in_err-begun.ensures.1 in
    passed_to c.from_residual-in_err-begun.result (λ (f : HeadFailure). IsAskedFor c.args.options.now f.error) passed.0 _ passed.1 passed.2 (files_lost c.args.options.now c.in_err-begun.field-0.0 c.in_err-begun.ensures.output).asked
