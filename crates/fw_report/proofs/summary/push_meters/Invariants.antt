use Rattle.std.proofs.Common.{◌≡◌, ◌++◌, take, flat_map}
use Rattle.fw_world.specs.declared.setup.MeterSetup.{MeterSetup}
use Rattle.fw_report.specs.Summary.{meters_of_setup}
use Rattle.fw_report.proofs.summary.push_meters.Given as goal

abbrev pub invariant-loop-setup : goal.invariant-loop-setup
invariant-loop-setup l = l.meters.items ≡ l.initial.meters.items ++ flat_map (λ (meter : MeterSetup). meters_of_setup l.world meter) (take l.setup-index l.setups)
