use Rattle.fw_fleet_audit.proofs.Passing.{Passed}
use Rattle.fw_fleet_audit.proofs.rows.audit_book.Given as goal

abbrev pub invariant-loop-serial : goal.invariant-loop-serial
invariant-loop-serial l = Passed l.book l.meters l.serial-iterator
