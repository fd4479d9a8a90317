-- The live rows without one of them, from the first entry on: where the last row comes.
use Rattle.std.proofs.Common.{◌≡◌, ℕ, suc, ◌-◌, ◌<◌, Bool, true, false, List, [], ◌∷◌, length, get_or, take, set, position, Option, Some, None, refl, sym, ap, ◌∙◌, arith}
use Rattle.std.specs.List.{swap_remove}
use Rattle.std.specs.Map.{keys_of}
use Rattle.indexmap.specs.IndexMap.{swap_remove_entry}
use Rattle.indexmap.proofs.MapLemmas.{index-first, index-absent, Found-position, Missing-position, swap_remove_entry-found, swap_remove_entry-missing}
use Rattle.fw_head.specs.Row.{Row}
use Rattle.fw_head.specs.Head.{Rows}

module _ {X : Type 0} where
  -- behind an entry that stays
  behind : (x : X) (xs : List X) (i : ℕ) (d : X) → 0 < length xs → swap_remove (x ∷ xs) (suc i) d ≡ x ∷ swap_remove xs i d
  behind x xs i d some =
      let n : suc (length xs) - 1 ≡ suc (length xs - 1) = omega arith in
      ap (λ k. take k (x ∷ set xs i (get_or (x ∷ xs) k d))) n

  -- the first of several
  first_of : (x y : X) (ys : List X) (d : X) → swap_remove (x ∷ y ∷ ys) 0 d ≡ get_or (y ∷ ys) (length (y ∷ ys) - 1) d ∷ take (length (y ∷ ys) - 1) (y ∷ ys)
  first_of x y ys d =
      let n : suc (suc (length ys)) - 1 ≡ suc (suc (length ys) - 1) = omega arith in
      ap (λ k. take k (get_or (x ∷ y ∷ ys) k d ∷ y ∷ ys)) n

  -- whatever it is
  either_first : (x z : X) (xs : List X) (d : X) → swap_remove (x ∷ xs) 0 d ≡ swap_remove (z ∷ xs) 0 d
  either_first x z [] d = refl
  either_first x z (y ∷ ys) d = first_of x y ys d ∙ sym (first_of z y ys d)

-- the first row is taken out, whatever it is
pub takes_first : (t : ℕ → Bool) (one other : ℕ × Row) (entries : Rows) → t one.0 ≡ true → t other.0 ≡ true → swap_remove_entry t (one ∷ entries) ≡ swap_remove_entry t (other ∷ entries)
takes_first t one other entries is also =
    swap_remove_entry-found t (one ∷ entries) 0 one (index-first t (one ∷ entries) 0 is)
    ∙ either_first one other entries one
    ∙ sym (swap_remove_entry-found t (other ∷ entries) 0 one (index-first t (other ∷ entries) 0 also))

-- the first row stays
pub keeps_first : (t : ℕ → Bool) (entry : ℕ × Row) (entries : Rows) → t entry.0 ≡ false → swap_remove_entry t (entry ∷ entries) ≡ entry ∷ swap_remove_entry t entries
keeps_first t entry entries other = by (position t (keys_of entries)) refl
  where
    by : (at : Option ℕ) → position t (keys_of entries) ≡ at → swap_remove_entry t (entry ∷ entries) ≡ entry ∷ swap_remove_entry t entries
    by None none =
        swap_remove_entry-missing t (entry ∷ entries) (index-absent t (entry ∷ entries) (other, (Missing-position t entries none).absent))
        ∙ ap (λ (rs : Rows). (let all : Rows = entry ∷ rs in all)) (sym (swap_remove_entry-missing t entries none))
    by (Some i) at =
        let found = Found-position t entries i at in
        swap_remove_entry-found t (entry ∷ entries) (suc i) entry (index-first t (entry ∷ entries) (suc i) (other, found.first))
        ∙ behind entry entries i entry (omega (arith, found.within))
        ∙ ap (λ (rs : Rows). (let all : Rows = entry ∷ rs in all)) (sym (swap_remove_entry-found t entries i entry at))
