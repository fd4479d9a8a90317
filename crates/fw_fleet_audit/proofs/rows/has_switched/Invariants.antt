use Rattle.fw_fleet_audit.proofs.Passing.{NoneBefore}
use Rattle.fw_fleet_audit.proofs.rows.has_switched.Given as goal

abbrev pub invariant-loop-at : goal.invariant-loop-at
invariant-loop-at l = NoneBefore l.meters l.meter l.name l.at
