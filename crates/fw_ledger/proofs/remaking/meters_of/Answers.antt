use Rattle.std.proofs.Common.{rules, ◌≡◌, ℕ, List, [], ◌∷◌, ◌++◌, sym, ap, ◌∙◌, append_assoc}
use Rattle.std.proofs.lemmas.List.{append-nil}
use Rattle.fw_book.specs.declared.row.Row.{Row}
use Rattle.fw_book.specs.Rows.{meters_of}
use Rattle.fw_ledger.proofs.Remade.{no_rows}
use Rattle.fw_ledger.proofs.remaking.meters_of.Goals as goal

pub loop-row-preserved : goal.loop-row-preserved
loop-row-preserved c =
    let items = c.loop-row.meters.items in
    let others = c.in-Some.others.now in
    let pushed : c.push.new.self.items ≡ items ++ c.in-Some.row.now.meter ∷ [] = search rules in
    ap (λ (l : List ℕ). l ++ meters_of others) pushed ∙ append_assoc items (c.in-Some.row.now.meter ∷ []) (meters_of others)
    ∙ ap (λ (l : List Row). items ++ meters_of l) (sym c.in-Some.ensures.cases.0) ∙ c.loop-row.invariant

pub returns : goal.returns
returns c =
    sym (append-nil c.loop-row.meters.items) ∙ ap (λ (l : List Row). c.loop-row.meters.items ++ meters_of l) (sym (no_rows c.loop-row.rest.now c.in_default.ensures.cases)) ∙ c.loop-row.invariant
