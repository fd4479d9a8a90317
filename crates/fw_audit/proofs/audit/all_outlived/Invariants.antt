use Rattle.std.proofs.Common.{vec_len}
use Rattle.fw_audit.specs.Log.{log_of}
use Rattle.fw_audit.specs.Private.{Gathers}
use Rattle.fw_audit.proofs.audit.all_outlived.Given as goal

abbrev pub invariant-loop-left : goal.invariant-loop-left
invariant-loop-left l = Gathers l.heads l.fn.lefts.items (log_of l.items) l.rest.items l.found.items l.far

abbrev pub decreases-loop-left : goal.decreases-loop-left
decreases-loop-left l = vec_len l.rest
