use Rattle.std.proofs.Common.{◌∙◌, ap, rules}
use Rattle.std.proofs.lemmas.List.{get_or_default, take_all}
use Rattle.fw_plan.specs.Ranges.{each_once}
use Rattle.fw_plan.proofs.Once.{once_next}
use Rattle.fw_plan.proofs.ranges.each_once.Goals as goal

pub loop-number-preserved : goal.loop-number-preserved
loop-number-preserved c =
    once_next c.args.numbers.now c.loop-number.number-index _ _ _ c.loop-number-test.true c.loop-number.invariant
    c.in_ok-push_new.ensures (search (rules, get_or_default))

pub returns : goal.returns
returns c = c.loop-number.invariant ∙ ap each_once (take_all c.loop-number.number-index c.args.numbers.now c.loop-number-test.false)
