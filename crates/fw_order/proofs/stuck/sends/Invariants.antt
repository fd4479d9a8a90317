use Rattle.fw_order.proofs.Sticking.{NoneOf}
use Rattle.fw_order.proofs.stuck.sends.Given as goal

abbrev pub invariant-loop-at : goal.invariant-loop-at
invariant-loop-at l = NoneOf l.items l.to l.bytes l.at
