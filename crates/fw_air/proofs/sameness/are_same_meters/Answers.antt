use Rattle.std.proofs.Common.{rules, tests}
use Rattle.std.proofs.lemmas.Iterator.{YieldsList-from_slice, YieldsList-from_zip, same_from_all}
use Rattle.fw_air.proofs.sameness.are_same_meters.Goals as goal

pub returns-then-ones-others : goal.returns-then-ones-others
returns-then-ones-others c =
    same_from_all c.all.new.self _ _ _ _ c.all.ensures.ran (YieldsList-from_zip (YieldsList-from_slice c.args.ones.now cc) (YieldsList-from_slice c.args.others.now cc)) (search rules) (λ x q k. search (rules, tests)) (λ x q k. search (rules, tests))
