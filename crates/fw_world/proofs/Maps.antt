-- What a map has that was changed at one value.
use Rattle.std.proofs.Common.{◌≡◌, ℕ, List, Option, Some, None, ap, Bool, true, false, ◌&&◌, nat_eq, ◌⊎◌, inl, inr, refl, eqb-true, if◌then◌else◌}
use Rattle.fw_names.specs.Name.{Campaign}
use Rattle.fw_world.specs.World.{put, same_campaign}

-- what is found is what was put there, or elsewhere what was there
pub put_cases : {A B : Type 0} (same : A → A → Bool) (values : A → B) (key other : A) (value found : B) → put same values key value other ≡ found
    → ((same other key ≡ true) × (value ≡ found)) ⊎ ((same other key ≡ false) × (values other ≡ found))
put_cases same values key other value found e = go (same other key) refl e
  where
    go : (b : Bool) → same other key ≡ b → (if b then value else values other) ≡ found → ((same other key ≡ true) × (value ≡ found)) ⊎ ((same other key ≡ false) × (values other ≡ found))
    go true is f = inl (is, f)
    go false is f = inr (is, f)

both_true : (a b : Bool) → (a && b) ≡ true → (a ≡ true) × (b ≡ true)
both_true true true e = (refl, refl)
both_true true false e = cc
both_true false b e = cc

pub same_campaign_is : (a b : Campaign) → same_campaign a b ≡ true → a ≡ b
same_campaign_is a b e =
    let both = both_true (nat_eq a.head b.head) (nat_eq a.serial b.serial) e in
    let heads : a.head ≡ b.head = eqb-true a.head b.head both.0 in
    let serials : a.serial ≡ b.serial = eqb-true a.serial b.serial both.1 in
    λ i. record { head = heads i; serial = serials i }

-- what is put at a new campaign keeps the others
pub put_keeps : (values : Campaign → Option (List ℕ)) (key : Campaign) (value : List ℕ) (other : Campaign) (found : List ℕ) → values key ≡ None → values other ≡ Some found
    → put same_campaign values key (Some value) other ≡ Some found
put_keeps values key value other found none e = go (same_campaign other key) refl
  where
    go : (b : Bool) → same_campaign other key ≡ b → (if b then Some value else values other) ≡ Some found
    go true is = let same = ap values (same_campaign_is other key is) in cc
    go false is = e
