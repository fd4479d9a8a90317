use Rattle.std.proofs.Common.{rules, tests}
use Rattle.std.proofs.lemmas.Iterator.{YieldsList-from_slice, cases_from_any}
use Rattle.fw_air.specs.Private.{IsInPhase}
use Rattle.fw_air.proofs.Alike.{any_iff}
use Rattle.fw_air.proofs.sameness.has_phase.Goals as goal

pub returns : goal.returns
returns c =
    any_iff (IsInPhase c.args.row.now) _ c.args.rows.now (cases_from_any _ _ _ (λ other. IsInPhase c.args.row.now other) (λ other. ¬ IsInPhase c.args.row.now other) c.any.ensures.ran (YieldsList-from_slice c.args.rows.now cc)
    (λ x q k. search (rules, tests)) (λ x q k. search (rules, tests)))
