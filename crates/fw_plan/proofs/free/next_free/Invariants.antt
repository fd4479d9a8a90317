use Rattle.fw_plan.specs.Private.{IsReached, left_from}
use Rattle.fw_plan.proofs.free.next_free.Given as goal

-- all numbers before this one are used
abbrev pub invariant-loop-free : goal.invariant-loop-free
invariant-loop-free l = IsReached l.book l.serial l.free

abbrev pub decreases-loop-free : goal.decreases-loop-free
decreases-loop-free l = left_from l.free
