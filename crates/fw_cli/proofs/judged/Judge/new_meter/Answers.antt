use Rattle.std.proofs.Common.{◌∙◌, Err, ap}
use Rattle.std.proofs.lemmas.Result.{err_from_is_err_and}
use Rattle.fw_cli.specs.MeterErrors.{IsOfSetup}
use Rattle.fw_cli.specs.declared.meter_error.MeterFailure.{MeterFailure}
use Rattle.fw_cli.proofs.Brought.{new_in_setup}
use Rattle.fw_cli.proofs.Passing.{passed_to}
use Rattle.fw_cli.proofs.judged.Judge.new_meter.Goals as goal

pub returns-in_err-new-clause-asked : goal.returns-in_err-new-clause-asked
returns-in_err-new-clause-asked g c =
    let passed = err_from_is_err_and c.from_residual.result c.from_residual.ensures.1 in
    passed_to c.from_residual.result (λ (f : MeterFailure). IsOfSetup c.args.self.now.fresh f.error) passed.0 _ passed.1 passed.2
    (new_in_setup c.args.self.now.fresh c.in_err-new.field-0.0 (λ none bad. c.new_store.ensures.bad_setup none (c.in_err-new.was ∙ ap Err bad)))
