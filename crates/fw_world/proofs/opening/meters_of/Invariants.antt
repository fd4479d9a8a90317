use Rattle.std.proofs.Common.{◌≡◌, drop, map, ◌++◌}
use Rattle.fw_world.specs.Setup.{meter_entry}
use Rattle.fw_world.proofs.opening.meters_of.Given as goal

-- what is made and what is left are the whole
abbrev pub invariant-loop-meter : goal.invariant-loop-meter
invariant-loop-meter l = l.made.items ++ map meter_entry (drop l.meter-index l.meters) ≡ map meter_entry l.meters
