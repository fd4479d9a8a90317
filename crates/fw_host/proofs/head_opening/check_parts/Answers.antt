use Rattle.std.proofs.Common.{All, rules, subst}
use Rattle.std.proofs.lemmas.List.{get_or_default, take_all}
use Rattle.fw_host.specs.Openings.{IsTakenBy}
use Rattle.fw_host.proofs.Taken.{one_more, one_within}
use Rattle.fw_host.proofs.head_opening.check_parts.Goals as goal

pub returns-in-Err-clause-refused : goal.returns-in-Err-clause-refused
returns-in-Err-clause-refused c = record {
  part = c.part-item.result;
  within = one_within c.args.parts.now c.loop-part.part-index c.part-item.result c.loop-part-test.true (search (rules, get_or_default));
  refused = c.in-Err.ensures.refused;
}

pub loop-part-preserved : goal.loop-part-preserved
loop-part-preserved c =
    one_more (IsTakenBy c.args.book.now c.args.image.now) c.args.parts.now c.loop-part.part-index c.part-item.result
    c.in-Ok.ensures.taken c.loop-part-test.true c.loop-part.invariant (search (rules, get_or_default))

pub returns-clause-taken : goal.returns-clause-taken
returns-clause-taken c =
    subst (All (IsTakenBy c.args.book.now c.args.image.now)) (take_all c.loop-part.part-index c.args.parts.now c.loop-part-test.false) c.loop-part.invariant
