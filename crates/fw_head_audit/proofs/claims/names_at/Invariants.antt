use Rattle.std.proofs.Common.{take}
use Rattle.fw_head_audit.specs.Private.{AreNamesAt}
use Rattle.fw_head_audit.proofs.claims.names_at.Given as goal

abbrev pub invariant-loop-at : goal.invariant-loop-at
invariant-loop-at l = AreNamesAt (take l.at l.claims) l.from l.names.items
