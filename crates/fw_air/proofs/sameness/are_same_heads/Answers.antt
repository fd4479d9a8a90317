use Rattle.std.proofs.Common.{rules, tests}
use Rattle.std.proofs.lemmas.Iterator.{YieldsList-from_slice, YieldsList-from_zip, cases_from_all}
use Rattle.std.proofs.lemmas.Slice.Zip.{AllZip-long}
use Rattle.fw_head.specs.Head.{Head}
use Rattle.fw_air.specs.Audits.{IsSameHead}
use Rattle.fw_air.proofs.Alike.{zipped_iff}
use Rattle.fw_air.proofs.sameness.are_same_heads.Goals as goal

pub returns-then-ones-others : goal.returns-then-ones-others
returns-then-ones-others c =
    zipped_iff IsSameHead c.all.result c.args.ones.now c.args.others.now (search rules) (cases_from_all c.all.new.self _ _ (λ (p : Head × Head). IsSameHead p.0 p.1) (λ (p : Head × Head). ¬ IsSameHead p.0 p.1) c.all.ensures.ran
    (YieldsList-from_zip (YieldsList-from_slice c.args.ones.now cc) (YieldsList-from_slice c.args.others.now cc)) (λ x q k. search (rules, tests)) (λ x q k. search (rules, tests)))

pub returns-else-ones-others : goal.returns-else-ones-others
returns-else-ones-others c =
    let long = AllZip-long IsSameHead c.args.ones.now c.args.others.now in
    (λ e. absurd (search (rules, tests)), λ all. absurd (let same = long all in search (rules, tests)))
