use Rattle.std.proofs.Common.{◌∙◌, IfErr, List, ℕ, subst}
use Rattle.std.proofs.lemmas.Result.{IfErr-weaker}
use Rattle.fw_plan.specs.Openings.{lacking}
use Rattle.fw_host.specs.Openings.{PartsRefused}
use Rattle.fw_host.proofs.Taken.{parts_refused}
use Rattle.fw_host.proofs.head_opening.parts_of.Goals as goal

pub returns-clause-refused : goal.returns-clause-refused
returns-clause-refused c =
    subst (λ (meters : List ℕ). IfErr c.missing_parts.result (PartsRefused c.args.book.now c.args.serial (lacking c.args.book.now c.args.serial c.args.release c.args.image.now meters)))
    (c.deref.ensures.value ∙ c.in_ok-meters.ensures) (IfErr-weaker c.missing_parts.result _ _ (λ e is. parts_refused _ _ _ e is) c.missing_parts.ensures.refused)
