use Rattle.std.proofs.Common.{rules, ◌≡◌, ℕ, List, subst}
use Rattle.fw_ledger.specs.Entry.{Entry, AreEndings}
use Rattle.fw_ledger.specs.Remade.{numbers_of, Puts}
use Rattle.fw_ledger.proofs.Remade.{no_entries, puts_nothing}
use Rattle.fw_ledger.proofs.remaking.put_endings.Goals as goal

pub returns-then-not-are_endings : goal.returns-then-not-are_endings
returns-then-not-are_endings c =
    let items = c.args.records.now.items in
    let here : c.deref.result.now ≡ numbers_of c.args.rows.now = search rules in
    let none : ¬ AreEndings (numbers_of c.args.rows.now) = subst (λ (l : List ℕ). ¬ AreEndings l) here c.if-not-are_endings.ensures in
    subst (λ (l : List Entry). Puts items items l) (no_entries c.args.campaign c.args.rows.now none) (puts_nothing items)
