use Rattle.std.proofs.Common.{◌≡◌, ◌++◌, map, take}
use Rattle.serde_json.specs.View.{view}
use Rattle.fw_report.specs.declared.summary.MeterEntry.{MeterEntry}
use Rattle.fw_report.specs.Json.{meter_data}
use Rattle.fw_report.proofs.json.push_meters.Given as goal

abbrev pub invariant-loop-meter : goal.invariant-loop-meter
invariant-loop-meter l = map view l.values.items ≡ map view l.initial.values.items ++ map (λ (meter : MeterEntry). meter_data meter) (take l.meter-index l.meters)
