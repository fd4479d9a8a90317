use Rattle.std.proofs.Common.{All, rules, subst}
use Rattle.std.proofs.lemmas.List.{get_or_default, take_all}
use Rattle.fw_host.specs.Openings.{IsCancelledBy}
use Rattle.fw_host.proofs.Taken.{cancel_within, one_more}
use Rattle.fw_host.proofs.head_opening.check_cancels.Goals as goal

pub returns-in-Err-clause-refused : goal.returns-in-Err-clause-refused
returns-in-Err-clause-refused c =
    cancel_within c.args.book.now c.args.serials.now c.loop-serial.serial-index _ _ c.loop-serial-test.true c.in-Err.ensures.refused
    (search (rules, get_or_default))

pub loop-serial-preserved : goal.loop-serial-preserved
loop-serial-preserved c =
    one_more (IsCancelledBy c.args.book.now) c.args.serials.now c.loop-serial.serial-index _
    c.in-Ok.ensures.admitted c.loop-serial-test.true c.loop-serial.invariant (search (rules, get_or_default))

pub returns-clause-admitted : goal.returns-clause-admitted
returns-clause-admitted c =
    subst (All (IsCancelledBy c.args.book.now)) (take_all c.loop-serial.serial-index c.args.serials.now c.loop-serial-test.false) c.loop-serial.invariant
