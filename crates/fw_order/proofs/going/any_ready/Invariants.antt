use Rattle.std.proofs.Common.{ℕ, ◌<◌}
use Rattle.fw_order.specs.Private.{IsStuck, far}
use Rattle.fw_order.proofs.going.any_ready.Given as goal

-- the ends so far can't go on
abbrev pub invariant-loop-number : goal.invariant-loop-number
invariant-loop-number l = (k : ℕ) → k < l.number → IsStuck (far l.left l.sent) k
