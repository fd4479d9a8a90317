use Rattle.std.proofs.Common.{◌≡◌, ◌≢◌, ◌≤◌, ℕ, None, sym, ◌∙◌, refl, arith, rules, tests}
use Rattle.std.specs.FinMap.{get}
use Rattle.std.proofs.lemmas.Iterator.{cases_from_all, YieldsList-from_range}
use Rattle.fw_image.proofs.Same.{same_cells_iff}
use Rattle.fw_image.proofs.held.Held+MemoryStore.has_same_cells.Goals as goal

pub returns-then-count-block_count : goal.returns-then-count-block_count
returns-then-count-block_count c =
    let a = c.args.self.now.meter.cells in
    let b = c.args.other.now.meter.cells in
    let count = c.block_count-count.result in
    let same : count ≡ c.block_count.result = search rules in
    let past : (k : ℕ) → count ≤ k → get b k ≡ None = λ k within. c.block_count.ensures.past k (omega arith) in
    let by = same_cells_iff c.all.result a b count c.block_count-count.ensures.past past
    (cases_from_all _ _ c.all.result (λ (k : ℕ). get a k ≡ get b k) (λ (k : ℕ). get a k ≢ get b k) c.all.ensures.ran (YieldsList-from_range 0 count count refl (omega arith))
    (λ x q k. search (rules, tests)) (λ x q k. search (rules, tests))) in
    (λ is. (sym c.block_count-count.ensures.value ∙ same ∙ c.block_count.ensures.value, by.0 is), λ both. by.1 both.1)
