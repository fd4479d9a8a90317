-- How calls of a device follow on each other.
use Rattle.std.proofs.Common.{inl, inr, ⊎_elim, ℕ, List}
use Rattle.fw_journal.specs.Device.{LeavesOnly}

module _ {D : Type 0} (moment : D → ℕ) (left_since : D → ℕ → List ℕ → Type 0) where
  pub weaker : (old new : D) (P Q : List ℕ → Type 0) → LeavesOnly moment left_since old new P → ((left : List ℕ) → P left → Q left) → LeavesOnly moment left_since old new Q
  weaker old new P Q leaves implies = record {
    later = leaves.later;
    each = λ left now. implies left (leaves.each left now);
    before = λ since left le now. ⊎_elim (λ had. inl had) (λ has. inr (implies left has)) (leaves.before since left le now);
  }
