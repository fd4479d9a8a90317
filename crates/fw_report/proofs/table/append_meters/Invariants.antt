use Rattle.std.proofs.Common.{◌≡◌, ◌++◌, take, flat_map}
use Rattle.std.specs.Prelude.{string_bytes}
use Rattle.fw_report.specs.declared.summary.MeterEntry.{MeterEntry}
use Rattle.fw_report.specs.Table.{meter_cells}
use Rattle.fw_report.proofs.table.append_meters.Given as goal

abbrev pub invariant-loop-meter : goal.invariant-loop-meter
invariant-loop-meter l = string_bytes l.text ≡ string_bytes l.initial.text ++ flat_map (λ (meter : MeterEntry). meter_cells meter) (take l.meter-index l.meters)
