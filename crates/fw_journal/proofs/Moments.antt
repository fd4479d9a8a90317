-- How calls of a device follow on each other.
use Rattle.std.proofs.Common.{inl, inr, ⊎_elim, ℕ, List, arith, Ok, Err, Result, OnOk}
use Rattle.fw_journal.specs.Device.{LeavesOnly}

-- what follows of what a call that succeeded makes
pub on_ok : {T E : Type 0} (result : Result T E) (P Q : Type 0) → (P → Q) → OnOk result P → OnOk result Q
on_ok (Ok v) P Q follows holds = follows holds
on_ok (Err e) P Q follows holds = holds

module _ {D : Type 0} (moment : D → ℕ) (left_since : D → ℕ → List ℕ → Type 0) where
  pub weaker : (old new : D) (P Q : List ℕ → Type 0) → LeavesOnly moment left_since old new P → ((left : List ℕ) → P left → Q left) → LeavesOnly moment left_since old new Q
  weaker old new P Q leaves implies = record {
    later = leaves.later;
    each = λ left now. implies left (leaves.each left now);
    before = λ since left le now. ⊎_elim (λ had. inl had) (λ has. inr (implies left has)) (leaves.before since left le now);
  }

  pub follow : (old mid new : D) (P : List ℕ → Type 0) → LeavesOnly moment left_since old mid P → LeavesOnly moment left_since mid new P → LeavesOnly moment left_since old new P
  follow old mid new P first second = record {
    later = omega (arith, first.later, second.later);
    each = λ left now. ⊎_elim (first.each left) (λ has. has) (second.before (moment old) left first.later now);
    before = λ since left le now. ⊎_elim (first.before since left le) (λ has. inr has) (second.before since left (omega (arith, le, first.later)) now);
  }
