use Rattle.fw_fleet_audit.proofs.Switching.{Past}
use Rattle.fw_fleet_audit.proofs.switches.audit_switches.Given as goal

abbrev pub invariant-loop-at : goal.invariant-loop-at
invariant-loop-at l = Past l.books l.images l.at l.last
