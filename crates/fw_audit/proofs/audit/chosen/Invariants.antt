use Rattle.std.proofs.Common.{vec_len}
use Rattle.fw_audit.proofs.Audits.{Looks}
use Rattle.fw_audit.proofs.audit.chosen.Given as goal

-- none of those that were looked at is it
abbrev pub invariant-loop-left : goal.invariant-loop-left
invariant-loop-left l = Looks l.fn.lefts.items l.rest.items l.end.meter

abbrev pub decreases-loop-left : goal.decreases-loop-left
decreases-loop-left l = vec_len l.rest
