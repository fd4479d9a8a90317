-- Where the first entry of a number stands in a list.
use Rattle.std.proofs.Common.{◌≡◌, ℕ, suc, ◌+◌, ◌<◌, Bool, true, false, cond, nat_eq, eqb-true, List, [], ◌∷◌, map, length, position, Option, Some, None, refl, sym, ap, subst, ◌∙◌, arith, slice_get, slice_set, slice_index_or}
use Rattle.std.specs.List.{position_from}
use Rattle.std.specs.Map.{lookup, set_value}
use Rattle.std.specs.Option.{option_map}
use Rattle.std.proofs.lemmas.Iterator.Adapters.{position_from-zero}
use Rattle.std.proofs.lemmas.List.{map-set, length-map}
use Rattle.std.proofs.lemmas.Option.{slice_get-get_or, slice_get-map}
use Rattle.fw_image.specs.Meter.{Meter}
use Rattle.fw_head.specs.Head.{Head}
use Rattle.fw_world.specs.Parts.{head_behind}
use Rattle.fw_world.specs.Private.{set_entry}

-- ---- a place in a list, by its first element and by its others

from_next : {A : Type 0} (p : A → Bool) (i : ℕ) (xs : List A) → position_from p (i + 1) xs ≡ option_map suc (position_from p i xs)
from_next p i [] = refl
from_next p i (x ∷ xs) = go (p x) (from_next p (i + 1) xs)
  where
    next : i + 1 ≡ suc i
    next = omega (arith)

    go : (b : Bool) → position_from p (i + 1 + 1) xs ≡ option_map suc (position_from p (i + 1) xs)
        → cond b (Some (i + 1)) (position_from p (i + 1 + 1) xs) ≡ option_map suc (cond b (Some i) (position_from p (i + 1) xs))
    go true others = ap Some next
    go false others = others

pub position_first : {A : Type 0} (p : A → Bool) (x : A) (xs : List A) → position p (x ∷ xs) ≡ cond (p x) (Some 0) (option_map suc (position p xs))
position_first p x xs =
    position_from-zero p (x ∷ xs) ∙ ap (λ (o : Option ℕ). cond (p x) (Some 0) o) (from_next p 0 xs ∙ ap (option_map suc) (sym (position_from-zero p xs)))

pub position_map : {A B : Type 0} (f : A → B) (p : B → Bool) (xs : List A) → position p (map f xs) ≡ position (λ x. p (f x)) xs
position_map f p [] = refl
position_map f p (x ∷ xs) =
    position_first p (f x) (map f xs) ∙ ap (λ (o : Option ℕ). cond (p (f x)) (Some 0) (option_map suc o)) (position_map f p xs) ∙ sym (position_first (λ y. p (f y)) x xs)

-- ---- what stands at the first place of a number

pub record IsAt {X : Type 0} (number : ℕ) (entries : List (ℕ × X)) (at : ℕ) : Type 0 where
  pub value : X
  pub within : at < length entries
  pub there : slice_get entries at ≡ Some (number, value)
  pub found : lookup (nat_eq number) entries ≡ Some value
  pub entry_set : (new : ℕ × X) → set_entry (nat_eq number) entries new ≡ slice_set entries at new
  pub value_set : (new : X) → set_value (nat_eq number) entries new ≡ slice_set entries at (number, new)

module _ {X : Type 0} (number : ℕ) where
  abbrev here : ℕ × X → Bool
  here entry = nat_eq number entry.0

  at_first : (entry : ℕ × X) (entries : List (ℕ × X)) → nat_eq number entry.0 ≡ true → IsAt number (entry ∷ entries) 0
  at_first entry entries same =
      let is : number ≡ entry.0 = eqb-true number entry.0 same in
      record {
        value = entry.1;
        within = omega (arith);
        there = λ i. Some (sym is i, entry.1);
        found = ap (λ b. cond b (Some entry.1) (lookup (nat_eq number) entries)) same;
        entry_set = λ new. ap (λ b. cond b (new ∷ entries) (entry ∷ set_entry (nat_eq number) entries new)) same;
        value_set = λ new. ap (λ b. cond b ((entry.0, new) ∷ entries) (entry ∷ set_value (nat_eq number) entries new)) same ∙ (λ i. (sym is i, new) ∷ entries);
      }

  behind : (entry : ℕ × X) (entries : List (ℕ × X)) (at : ℕ) → nat_eq number entry.0 ≡ false → IsAt number entries at → IsAt number (entry ∷ entries) (suc at)
  behind entry entries at other is = record {
    value = is.value;
    within = omega (arith, is.within);
    there = is.there;
    found = ap (λ b. cond b (Some entry.1) (lookup (nat_eq number) entries)) other ∙ is.found;
    entry_set = λ new. ap (λ b. cond b (new ∷ entries) (entry ∷ set_entry (nat_eq number) entries new)) other ∙ ap (λ (l : List (ℕ × X)). entry ∷ l) (is.entry_set new);
    value_set = λ new. ap (λ b. cond b ((entry.0, new) ∷ entries) (entry ∷ set_value (nat_eq number) entries new)) other ∙ ap (λ (l : List (ℕ × X)). entry ∷ l) (is.value_set new);
  }

  pub at_place : (entries : List (ℕ × X)) (at : ℕ) → position here entries ≡ Some at → IsAt number entries at
  at_place [] at e = absurd cc
  at_place (entry ∷ entries) at e = go (nat_eq number entry.0) refl (position here entries) refl (at_place entries) (sym (position_first here entry entries) ∙ e)
    where
      go : (b : Bool) → nat_eq number entry.0 ≡ b → (o : Option ℕ) → position here entries ≡ o → ((k : ℕ) → position here entries ≡ Some k → IsAt number entries k)
          → cond b (Some 0) (option_map suc o) ≡ Some at → IsAt number (entry ∷ entries) at
      go true same o is others f = let first : 0 ≡ at = cc in subst (IsAt number (entry ∷ entries)) first (at_first entry entries same)
      go false other None is others f = absurd cc
      go false other (Some k) is others f = let next : suc k ≡ at = cc in subst (IsAt number (entry ∷ entries)) next (behind entry entries k other (others k is))

  pub no_place : (entries : List (ℕ × X)) → position here entries ≡ None → lookup (nat_eq number) entries ≡ None
  no_place [] e = refl
  no_place (entry ∷ entries) e = go (nat_eq number entry.0) (position here entries) refl (no_place entries) (sym (position_first here entry entries) ∙ e)
    where
      go : (b : Bool) → (o : Option ℕ) → position here entries ≡ o → (position here entries ≡ None → lookup (nat_eq number) entries ≡ None) → cond b (Some 0) (option_map suc o) ≡ None
          → cond b (Some entry.1) (lookup (nat_eq number) entries) ≡ None
      go true o is others f = absurd cc
      go false None is others f = others is
      go false (Some k) is others f = absurd cc

  -- what is read there is what is looked up
  pub looked_up : (entries : List (ℕ × X)) (at : ℕ) (entry : ℕ × X) → IsAt number entries at → slice_get entries at ≡ Some entry → Some entry.1 ≡ lookup (nat_eq number) entries
  looked_up entries at entry is there = ap (option_map (λ (e : ℕ × X). e.1)) (sym there ∙ is.there) ∙ sym is.found

-- an element that is there
pub element_at : {A : Type 0} (xs : List A) (at : ℕ) (x : A) → at < length xs → x ≡ slice_index_or xs at x → slice_get xs at ≡ Some x
element_at xs at x within is = slice_get-get_or xs at x within ∙ ap Some (sym is)

-- ---- head ends, each under its own number

pub head_place : (number : ℕ) (heads lent : List Head) (place found : Option ℕ) → lent ≡ heads → place ≡ position (λ head. nat_eq number head.book.head) lent → place ≡ found
    → position (λ (entry : ℕ × Head). nat_eq number entry.0) (map head_behind heads) ≡ found
head_place number heads lent place found same at is =
    position_map head_behind (λ (entry : ℕ × Head). nat_eq number entry.0) heads ∙ ap (λ (hs : List Head). position (λ head. nat_eq number head.book.head) hs) (sym same) ∙ sym at ∙ is

pub head_element : (heads : List Head) (at : ℕ) (head : Head) → at < length (map head_behind heads) → head ≡ slice_index_or heads at head → slice_get (map head_behind heads) at ≡ Some (head_behind head)
head_element heads at head within is =
    slice_get-map head_behind heads at ∙ ap (option_map head_behind) (element_at heads at head (subst (λ n. at < n) (length-map heads head_behind) within) is)

pub head_put : (number : ℕ) (heads : List Head) (at : ℕ) (head : Head) → IsAt number (map head_behind heads) at → map head_behind (slice_set heads at head) ≡ set_entry (nat_eq number) (map head_behind heads) (head_behind head)
head_put number heads at head is = map-set head_behind heads at head ∙ sym (is.entry_set (head_behind head))

-- ---- meters

pub meter_place : (number : ℕ) (meters lent : List (ℕ × Meter)) (place found : Option ℕ) → lent ≡ meters → place ≡ position (λ (meter : ℕ × Meter). nat_eq number meter.0) lent → place ≡ found
    → position (λ (entry : ℕ × Meter). nat_eq number entry.0) meters ≡ found
meter_place number meters lent place found same at is = ap (λ (ms : List (ℕ × Meter)). position (λ (entry : ℕ × Meter). nat_eq number entry.0) ms) (sym same) ∙ sym at ∙ is

pub meter_put : (number : ℕ) (meters : List (ℕ × Meter)) (at : ℕ) (entry : ℕ × Meter) (new : Meter) → IsAt number meters at → slice_get meters at ≡ Some entry
    → slice_set meters at (entry.0, new) ≡ set_value (nat_eq number) meters new
meter_put number meters at entry new is there =
    let same : number ≡ entry.0 = ap (λ (e : ℕ × Meter). e.0) (one_entry (number, is.value) entry (sym is.there ∙ there)) in
    (λ i. slice_set meters at (sym same i, new)) ∙ sym (is.value_set new)
  where
    one_entry : (a b : ℕ × Meter) → Some a ≡ Some b → a ≡ b
    one_entry a b e = cc
