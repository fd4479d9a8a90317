use Rattle.std.proofs.Common.{take}
use Rattle.fw_audit.specs.Log.{log_of}
use Rattle.fw_audit.specs.Private.{IsPast, stand_of}
use Rattle.fw_audit.proofs.life.run.Given as goal

-- the items so far lead to here
abbrev pub invariant-loop-at : goal.invariant-loop-at
invariant-loop-at l = IsPast l.heads l.fn.start.switched.items (stand_of l.fn.start) (log_of (take l.at l.items)) l.going
