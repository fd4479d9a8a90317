use Rattle.std.proofs.Common.{◌≡◌, ◌≤◌, ℕ, List, length, sym, ◌∙◌, ap, subst, arith}
use Rattle.std.proofs.lemmas.Result.{IfOk-weaker}
use Rattle.fw_journal.specs.Device.{splice, IsTorn}
use Rattle.fw_journal.specs.Past.{fated}
use Rattle.fw_journal.specs.declared.disk.Change.TheVariants.{Write}
use Rattle.fw_journal.proofs.Splices.{torn_part}
use Rattle.fw_journal.proofs.Fates.{fated_within}
use Rattle.fw_journal.proofs.disk.torn.Goals as goal

pub returns-clause-may : goal.returns-clause-may
returns-clause-may c =
    let within : c.args.at ≤ length c.args.old.now = omega arith in
    IfOk-weaker c.spliced.result (λ left. left.items ≡ splice c.args.old.now c.args.at c.at_most.result.now) (λ left. IsTorn c.args.at c.args.size c.args.old.now left.items)
    (λ left is. subst (λ (l : List ℕ). IsTorn c.args.at c.args.size c.args.old.now l) (sym is) (torn_part c.args.at c.args.size c.args.old.now c.at_most.result.now within c.at_most.ensures.short)) (c.spliced.ensures within)

pub returns-clause-chosen : goal.returns-clause-chosen
returns-clause-chosen c =
    let within : c.args.at ≤ length c.args.old.now = omega arith in
    IfOk-weaker c.spliced.result (λ left. left.items ≡ splice c.args.old.now c.args.at c.at_most.result.now) (λ left. left.items ≡ fated (Write c.args.at c.args.size) c.args.fate.now c.args.old.now)
    (λ left is. is ∙ ap (λ (l : List ℕ). splice c.args.old.now c.args.at l) c.at_most.ensures.front ∙ sym (fated_within c.args.at c.args.size c.args.fate.now c.args.old.now within)) (c.spliced.ensures within)
