use Rattle.std.proofs.Common.{arith}
use Rattle.fw_order.proofs.Sticking.{none_of_all}
use Rattle.fw_order.proofs.stuck.sends.Goals as goal

pub returns-clause-none : goal.returns-clause-none
returns-clause-none c is = none_of_all c.args.items.now c.args.to c.args.bytes.now c.loop-at.at (omega (arith, c.loop-at-test.false)) c.loop-at.invariant
