use Rattle.fw_order.proofs.Steps.{NoneAt}
use Rattle.fw_order.proofs.going.end_at.Given as goal

abbrev pub invariant-loop-number : goal.invariant-loop-number
invariant-loop-number l = NoneAt l.left l.address l.number
