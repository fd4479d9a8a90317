use Rattle.std.proofs.Common.{◌∙◌, List, ℕ, subst}
use Rattle.fw_host.specs.Openings.{RefusesOneCancel}
use Rattle.fw_host.proofs.head_opening.cancels_of.Goals as goal

pub returns-in-Err-clause-refused : goal.returns-in-Err-clause-refused
returns-in-Err-clause-refused c =
    subst (λ (serials : List ℕ). RefusesOneCancel c.args.book.now serials c.in-Err.refusal) (c.deref.ensures.value ∙ c.in_ok-serials.ensures) c.in-Err.ensures.refused
