use Rattle.std.proofs.Common.{take}
use Rattle.fw_rollout.specs.Counting.{CountsJust}
use Rattle.fw_rollout.proofs.daemon.count_ended.Given as goal

-- the rows so far were counted
abbrev pub invariant-loop-one : goal.invariant-loop-one
invariant-loop-one l = CountsJust (take l.one-index l.ended) l.fn.counts l.counts
