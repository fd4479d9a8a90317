-- The cells of a meter: what they have after one is written, and how long they are together.
use Rattle.std.proofs.Common.{◌≡◌, ℕ, cond, List, Some, None, ◌⊎◌, inl, inr, refl, sym, ◌∙◌, Ordering, Less, Equal, Greater, is_eq}
use Rattle.std.specs.Ordering.{nat_cmp}
use Rattle.std.proofs.lemmas.Cmp.{nat_cmp_total}
use Rattle.std.specs.FinMap.{get, insert, empty, get-insert, get-empty, nat_cmp-IsAntisymmetric}
use Rattle.fw_image.specs.Meter.{Cells}

-- what is there is what was written, or was there before
pub get_cases : (cells : Cells) (number : ℕ) (value : List ℕ) (other : ℕ) (cell : List ℕ) → get (insert cells number value) other ≡ Some cell
    → ((other ≡ number) × (value ≡ cell)) ⊎ (get cells other ≡ Some cell)
get_cases cells number value other cell h = go (nat_cmp other number) refl (sym (get-insert nat_cmp_total cells number value other) ∙ h)
  where
    go : (r : Ordering) → nat_cmp other number ≡ r → cond (is_eq r) (Some value) (get cells other) ≡ Some cell → ((other ≡ number) × (value ≡ cell)) ⊎ (get cells other ≡ Some cell)
    go Less e i = inr i
    go Equal e i = inl (nat_cmp-IsAntisymmetric other number e, cc)
    go Greater e i = inr i

pub no_cell : (number : ℕ) (cell : List ℕ) → get (empty {X = List ℕ} {R = nat_cmp}) number ≡ Some cell → ⊥
no_cell number cell e = let none : get (empty {X = List ℕ} {R = nat_cmp}) number ≡ None = get-empty nat_cmp number in cc
