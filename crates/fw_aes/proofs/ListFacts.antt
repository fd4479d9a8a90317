-- One element more is right.
use Rattle.std.proofs.Common.{◌≡◌, ◌≢◌, ℕ, ◌+◌, ◌<◌, List, length, get_or, arith, inl, inr, ◌∙◌}
use Rattle.std.proofs.Math.ListN.{set}
use Rattle.std.proofs.lemmas.Bool.{cases_lt}
use Rattle.std.proofs.lemmas.List.{get_or-set_same, get_or-set_other}

pub set_more : (xs : List ℕ) (f : ℕ → ℕ) (n v : ℕ) → n < length xs → ((k : ℕ) → k < n → get_or xs k 0 ≡ f k) → v ≡ f n → (k : ℕ) → k < n + 1
    → get_or (set xs n v) k 0 ≡ f k
set_more xs f n v lt held ev k below = elim (cases_lt k n) [
  | inl less ↦
      let other : k ≢ n = omega arith in
      get_or-set_other xs n k v 0 other ∙ held k less
  | inr ge ↦
      let e : k ≡ n = omega arith in
      rw e (get_or-set_same xs n v 0 lt ∙ ev)
]
