use Rattle.std.proofs.Common.{rules, tests}
use Rattle.std.proofs.lemmas.Iterator.{YieldsList-from_zip, same_from_all}
use Rattle.std.proofs.lemmas.Iterator.Consumers.{YieldsList-from_rest}
use Rattle.fw_air.proofs.sameness.are_same_campaigns.Goals as goal

pub returns-then-len : goal.returns-then-len
returns-then-len c =
    same_from_all c.all.new.self _ _ _ _ c.all.ensures.ran (YieldsList-from_zip (YieldsList-from_rest c.args.ones cc) (YieldsList-from_rest c.args.others cc)) (search rules) (λ x q k. search (rules, tests)) (λ x q k. search (rules, tests))
