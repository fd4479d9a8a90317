use Rattle.fw_order.specs.Order.{ends_of}
use Rattle.fw_order.specs.Private.{IsGone, far, items_left}
use Rattle.fw_order.proofs.joining.look_for.Given as goal

abbrev pub invariant-loop-number : goal.invariant-loop-number
invariant-loop-number l = IsGone (ends_of l.logs) (far l.left l.sent)

abbrev pub decreases-loop-number : goal.decreases-loop-number
decreases-loop-number l = items_left l.left
