use Rattle.fw_order.proofs.Sticking.{NoneSends}
use Rattle.fw_order.proofs.stuck.is_sent.Given as goal

abbrev pub invariant-loop-number : goal.invariant-loop-number
invariant-loop-number l = NoneSends l.logs l.from l.to l.bytes l.number
