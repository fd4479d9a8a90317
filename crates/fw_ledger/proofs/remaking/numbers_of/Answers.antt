use Rattle.std.proofs.Common.{rules, ◌≡◌, ℕ, List, [], ◌∷◌, ◌++◌, sym, ap, ◌∙◌, append_assoc}
use Rattle.std.proofs.lemmas.List.{append-nil}
use Rattle.fw_book.specs.declared.row.Row.{Row}
use Rattle.fw_ledger.specs.Remade.{numbers_of}
use Rattle.fw_ledger.proofs.Remade.{no_rows}
use Rattle.fw_ledger.proofs.remaking.numbers_of.Goals as goal

pub loop-row-preserved : goal.loop-row-preserved
loop-row-preserved c =
    let items = c.loop-row.numbers.items in
    let others = c.in-Some.others.now in
    let pushed : c.push.new.self.items ≡ items ++ c.state_number.result ∷ [] = search rules in
    ap (λ (l : List ℕ). l ++ numbers_of others) (pushed ∙ ap (λ (n : ℕ). items ++ n ∷ []) c.state_number.ensures) ∙ append_assoc items _ (numbers_of others)
    ∙ ap (λ (l : List Row). items ++ numbers_of l) (sym c.in-Some.ensures.cases.0) ∙ c.loop-row.invariant

pub returns : goal.returns
returns c =
    sym (append-nil c.loop-row.numbers.items) ∙ ap (λ (l : List Row). c.loop-row.numbers.items ++ numbers_of l) (sym (no_rows c.loop-row.rest.now c.in_default.ensures.cases)) ∙ c.loop-row.invariant
