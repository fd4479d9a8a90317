use Rattle.std.proofs.Common.{arith}
use Rattle.fw_order.specs.Private.{far}
use Rattle.fw_order.proofs.Steps.{stuck_all, stuck_more}
use Rattle.fw_order.proofs.going.any_ready.Goals as goal

pub loop-number-init : goal.loop-number-init
loop-number-init c k within = absurd (omega arith)

pub loop-number-preserved : goal.loop-number-preserved
loop-number-preserved c =
    stuck_more (far c.args.left.now c.args.sent.now) c.loop-number.number c.loop-number.invariant (c.is_ready.ensures.none c.if-is_ready.false)

pub returns-clause-none : goal.returns-clause-none
returns-clause-none c =
    stuck_all (far c.args.left.now c.args.sent.now) c.loop-number.number (omega (arith, c.loop-number-test.false)) c.loop-number.invariant
