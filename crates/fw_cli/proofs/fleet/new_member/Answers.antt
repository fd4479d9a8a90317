use Rattle.std.proofs.Common.{◌≡◌, inr}
use Rattle.std.specs.Prelude.{◌⊎◌}
use Rattle.std.proofs.lemmas.Result.{err_from_is_err_and}
use Rattle.fw_cli.specs.MeterErrors.{IsOfStore}
use Rattle.fw_cli.specs.declared.meter_error.MeterError.TheVariants.{OutOfMemory}
use Rattle.fw_cli.specs.declared.meter_error.MeterFailure.{MeterFailure}
use Rattle.fw_cli.proofs.Brought.{of_store}
use Rattle.fw_cli.proofs.Passing.{passed_to}
use Rattle.fw_cli.proofs.fleet.new_member.Goals as goal

pub returns-in_err-meter-clause-errors : goal.returns-in_err-meter-clause-errors
returns-in_err-meter-clause-errors g c =
    let passed = err_from_is_err_and c.from_residual-in_err-meter.result c.from_residual-in_err-meter.ensures.1 in
    passed_to c.from_residual-in_err-meter.result (λ (f : MeterFailure). (f.error ≡ OutOfMemory) ⊎ IsOfStore f.error) passed.0 _ passed.1 passed.2
    (inr (of_store c.in_err-meter.field-0.0.error))
