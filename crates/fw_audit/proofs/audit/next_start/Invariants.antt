use Rattle.std.specs.List.{AllWithin}
use Rattle.fw_audit.proofs.Items.{Goes}
use Rattle.fw_audit.proofs.audit.next_start.Given as goal

abbrev pub invariant-loop-at : goal.invariant-loop-at
invariant-loop-at l = AllWithin Goes l.items l.from l.at
