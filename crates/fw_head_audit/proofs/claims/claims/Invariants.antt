use Rattle.std.proofs.Common.{take}
use Rattle.fw_audit.specs.Log.{log_of}
use Rattle.fw_head_audit.specs.Private.{AreClaims}
use Rattle.fw_head_audit.proofs.claims.claims.Given as goal

abbrev pub invariant-loop-at : goal.invariant-loop-at
invariant-loop-at l = AreClaims (take l.at (log_of l.items)) l.claims.items
