use Rattle.std.proofs.Common.{arith}
use Rattle.fw_order.specs.Private.{far}
use Rattle.fw_order.proofs.Sticking.{all_empty, if_none}
use Rattle.fw_order.proofs.stuck.departure.Goals as goal

pub returns-clause-none : goal.returns-clause-none
returns-clause-none c =
    if_none c.loop-number.later
    (λ none. all_empty c.args.logs.now (far c.args.left.now c.args.sent.now) c.loop-number.number c.requires.gone (omega (arith, c.loop-number-test.false)) (c.loop-number.invariant.0 none))
