use Rattle.std.proofs.Common.{ap}
use Rattle.fw_cli.specs.declared.meter_error.MeterFailure.{MeterFailure}
use Rattle.fw_cli.proofs.Brought.{store_in_setup}
use Rattle.fw_cli.proofs.judged.Judge.meter.Goals as goal

pub returns-in-Err-clause-number : goal.returns-in-Err-clause-number
returns-in-Err-clause-number g c = ap (λ (f : MeterFailure). f.number) c.from.ensures

pub returns-in-Err-clause-asked : goal.returns-in-Err-clause-asked
returns-in-Err-clause-asked g c = store_in_setup c.args.self.now.fresh c.in-Err.because.error c.from.result.error (ap (λ (f : MeterFailure). f.error) c.from.ensures)
