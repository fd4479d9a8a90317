use Rattle.std.proofs.Common.{take}
use Rattle.fw_head_audit.specs.Private.{HaveNames}
use Rattle.fw_head_audit.proofs.claims.with_names.Given as goal

-- the meters so far have their names
abbrev pub invariant-loop-at : goal.invariant-loop-at
invariant-loop-at l = HaveNames (take l.at l.meters) l.claims l.all.items
