-- Elements of lists.
use Rattle.std.proofs.Common.{◌≡◌, ◌≢◌, ◌++◌, ◌+◌, ◌<◌, ◌≤◌, ◌⊎◌, ℕ, zero, suc, List, [], ◌∷◌, map, Option, Some, None, length, slice_get, slice_index_or, inl, inr, refl, sym, ap, subst, ◌∙◌, arith, ⊎_elim}
use Rattle.std.specs.Prelude.{Contains, slice_set}
use Rattle.std.specs.Option.{option_map}
use Rattle.std.proofs.lemmas.List.Elements.{Contains-push, Contains-push_cases}

pub heads : {X : Type 0} (x y : X) (xs ys : List X) → x ∷ xs ≡ y ∷ ys → x ≡ y
heads x y xs ys e = cc

pub tails : {X : Type 0} (x y : X) (xs ys : List X) → x ∷ xs ≡ y ∷ ys → xs ≡ ys
tails x y xs ys e = cc

pub no_cons : {X : Type 0} (x : X) (xs : List X) → x ∷ xs ≡ [] → ⊥
no_cons x xs e = cc

pub same_some : {X : Type 0} (a b : X) → Some a ≡ Some b → a ≡ b
same_some a b e = cc

pub never_some : {X : Type 0} (x : X) → None ≡ Some x → ⊥
never_some x e = cc

-- ---- elements

pub none_in : {X : Type 0} (x : X) → Contains [] x → ⊥
none_in x (k, inside, is) = omega arith

pub one_in : {X : Type 0} (y x : X) → Contains (y ∷ []) x → y ≡ x
one_in y x c = ⊎_elim (λ (none : Contains [] x). absurd (none_in x none)) (λ (same : y ≡ x). same) (Contains-push_cases [] y x c)

pub first_in : {X : Type 0} (x : X) (xs : List X) → Contains (x ∷ xs) x
first_in x xs = (zero, omega arith, refl)

pub in_rest : {X : Type 0} (y x : X) (xs : List X) → Contains xs x → Contains (y ∷ xs) x
in_rest y x xs (k, inside, is) = (suc k, omega arith, is)

-- an element of a front of a list is in each front that isn't shorter
pub in_longer : {X : Type 0} (xs a ys b : List X) (x : X) → xs ++ a ≡ ys ++ b → length xs ≤ length ys → Contains xs x → Contains ys x
in_longer [] a ys b x e order (k, inside, is) = absurd (omega (arith, inside))
in_longer (z ∷ xs) a [] b x e order c = absurd (omega (arith, order))
in_longer (z ∷ xs) a (y ∷ ys) b x e order (zero, inside, is) = (zero, omega arith, sym (heads z y (xs ++ a) (ys ++ b) e) ∙ is)
in_longer (z ∷ xs) a (y ∷ ys) b x e order (suc k, inside, is) =
    let later = in_longer xs a ys b x (tails z y (xs ++ a) (ys ++ b) e) (omega (arith, order)) (k, omega (arith, inside), is) in in_rest y x ys later

-- what is behind fronts of one length
pub same_behind : {X : Type 0} (xs a ys b : List X) → xs ++ a ≡ ys ++ b → length xs ≡ length ys → a ≡ b
same_behind [] a [] b e same = e
same_behind [] a (y ∷ ys) b e same = absurd (omega (arith, same))
same_behind (x ∷ xs) a [] b e same = absurd (omega (arith, same))
same_behind (x ∷ xs) a (y ∷ ys) b e same = same_behind xs a ys b (tails x y (xs ++ a) (ys ++ b) e) (omega (arith, same))

-- ---- places

-- the element that is read at a place, whatever would stand for one that isn't there
pub read_at : {X : Type 0} (xs : List X) (at : ℕ) (d : X) → at < length xs → slice_get xs at ≡ Some (slice_index_or xs at d)
read_at [] at d inside = absurd (omega arith)
read_at (x ∷ xs) zero d inside = refl
read_at (x ∷ xs) (suc at) d inside = read_at xs at d (omega arith)

pub got_inside : {X : Type 0} (xs : List X) (at : ℕ) (x : X) → slice_get xs at ≡ Some x → at < length xs
got_inside [] at x e = absurd cc
got_inside (y ∷ xs) zero x e = omega arith
got_inside (y ∷ xs) (suc at) x e = let inside = got_inside xs at x e in omega arith

pub got_is : {X : Type 0} (xs : List X) (at : ℕ) (x d : X) → slice_get xs at ≡ Some x → slice_index_or xs at d ≡ x
got_is xs at x d e = same_some (slice_index_or xs at d) x (sym (read_at xs at d (got_inside xs at x e)) ∙ e)

pub got_in : {X : Type 0} (xs : List X) (at : ℕ) (x : X) → slice_get xs at ≡ Some x → Contains xs x
got_in xs at x e = (at, got_inside xs at x e, got_is xs at x x e)

pub got_past : {X : Type 0} (xs : List X) (at : ℕ) → length xs ≤ at → slice_get xs at ≡ None
got_past [] at past = refl
got_past (x ∷ xs) zero past = absurd (omega arith)
got_past (x ∷ xs) (suc at) past = got_past xs at (omega arith)

pub got_behind : {X : Type 0} (front : List X) (x : X) (rest : List X) → slice_get (front ++ x ∷ rest) (length front) ≡ Some x
got_behind [] x rest = refl
got_behind (y ∷ front) x rest = got_behind front x rest

pub got_mapped : {X Y : Type 0} (f : X → Y) (xs : List X) (at : ℕ) → slice_get (map f xs) at ≡ option_map f (slice_get xs at)
got_mapped f [] at = refl
got_mapped f (x ∷ xs) zero = refl
got_mapped f (x ∷ xs) (suc at) = got_mapped f xs at

pub put_own : {X : Type 0} (xs : List X) (at : ℕ) (x y : X) → slice_get xs at ≡ Some x → slice_get (slice_set xs at y) at ≡ Some y
put_own [] at x y e = absurd cc
put_own (z ∷ xs) zero x y e = refl
put_own (z ∷ xs) (suc at) x y e = put_own xs at x y e

pub put_other : {X : Type 0} (xs : List X) (at other : ℕ) (y : X) → at ≢ other → slice_get (slice_set xs at y) other ≡ slice_get xs other
put_other [] at other y apart = refl
put_other (z ∷ xs) zero zero y apart = absurd (apart refl)
put_other (z ∷ xs) zero (suc other) y apart = refl
put_other (z ∷ xs) (suc at) zero y apart = refl
put_other (z ∷ xs) (suc at) (suc other) y apart = put_other xs at other y (λ (e : at ≡ other). apart (ap suc e))

-- what a list of values has is the value of an element
pub in_map : {X Y : Type 0} (f : X → Y) (xs : List X) (y : Y) → Contains (map f xs) y → (x : X) × Contains xs x × (f x ≡ y)
in_map f [] y (k, inside, is) = absurd (omega arith)
in_map f (x ∷ xs) y (zero, inside, is) = (x, (zero, omega arith, refl), is)
in_map f (x ∷ xs) y (suc k, inside, is) =
    let rest = in_map f xs y (k, omega arith, is) in
    (rest.0, in_rest x rest.0 xs rest.1, rest.2)

-- nothing is behind the front of an empty list
pub no_rest : {X : Type 0} (front rest : List X) → front ++ rest ≡ [] → rest ≡ []
no_rest [] rest e = e
no_rest (x ∷ front) rest e = absurd (no_cons x (front ++ rest) e)
