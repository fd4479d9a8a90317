use Rattle.std.proofs.Common.{take}
use Rattle.std.specs.Prelude.{All}
use Rattle.fw_audit.specs.Log.{log_of}
use Rattle.fw_head_audit.specs.Heads.{IsOrderly}
use Rattle.fw_head_audit.proofs.audit.audit_sends.Given as goal

-- what was sent so far is offered
abbrev pub invariant-loop-at : goal.invariant-loop-at
invariant-loop-at l = All (IsOrderly l.book l.meters) (take l.at (log_of l.items))
