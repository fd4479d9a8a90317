use Rattle.std.proofs.Common.{rules, tests}
use Rattle.std.specs.List.{Any}
use Rattle.std.proofs.lemmas.Iterator.{YieldsList-from_slice, cases_from_all}
use Rattle.fw_air.specs.Private.{IsInPhase}
use Rattle.fw_air.proofs.Alike.{all_iff}
use Rattle.fw_air.proofs.sameness.are_in_phases.Goals as goal

pub returns : goal.returns
returns c =
    all_iff (λ row. Any (IsInPhase row) c.args.others.now) _ c.args.rows.now (cases_from_all _ _ _ (λ row. Any (IsInPhase row) c.args.others.now) (λ row. ¬ Any (IsInPhase row) c.args.others.now) c.all.ensures.ran (YieldsList-from_slice c.args.rows.now cc)
    (λ x q k. search (rules, tests)) (λ x q k. search (rules, tests)))
