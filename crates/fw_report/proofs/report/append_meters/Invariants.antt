use Rattle.std.proofs.Common.{◌≡◌, ◌++◌, take, flat_map}
use Rattle.std.specs.Prelude.{string_bytes}
use Rattle.fw_world.specs.declared.setup.MeterSetup.{MeterSetup}
use Rattle.fw_report.specs.Report.{meter_lines}
use Rattle.fw_report.proofs.report.append_meters.Given as goal

abbrev pub invariant-loop-meter : goal.invariant-loop-meter
invariant-loop-meter l = string_bytes l.text ≡ string_bytes l.initial.text ++ flat_map (λ (meter : MeterSetup). meter_lines l.world meter) (take l.meter-index l.meters)
