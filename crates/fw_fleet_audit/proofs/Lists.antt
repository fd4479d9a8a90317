-- Elements of lists.
use Rattle.std.proofs.Common.{◌≡◌, ◌++◌, ◌<◌, ℕ, zero, suc, List, [], ◌∷◌, map, Some, length, slice_get, slice_index_or, refl, subst, arith}
use Rattle.std.specs.Prelude.{All, Contains}
use Rattle.std.proofs.lemmas.List.Elements.{All-head, All-tail}

-- the element that is read at a place, whatever would stand for one that isn't there
pub read_at : {X : Type 0} (xs : List X) (at : ℕ) (d : X) → at < length xs → slice_get xs at ≡ Some (slice_index_or xs at d)
read_at [] at d inside = absurd (omega arith)
read_at (x ∷ xs) zero d inside = refl
read_at (x ∷ xs) (suc at) d inside = read_at xs at d (omega arith)

pub got_inside : {X : Type 0} (xs : List X) (at : ℕ) (x : X) → slice_get xs at ≡ Some x → at < length xs
got_inside [] at x e = absurd cc
got_inside (y ∷ xs) zero x e = omega arith
got_inside (y ∷ xs) (suc at) x e = let rest = got_inside xs at x e in omega arith

pub got_is : {X : Type 0} (xs : List X) (at : ℕ) (x d : X) → slice_get xs at ≡ Some x → slice_index_or xs at d ≡ x
got_is [] at x d e = absurd cc
got_is (y ∷ xs) zero x d e = let same : y ≡ x = cc in same
got_is (y ∷ xs) (suc at) x d e = got_is xs at x d e

pub all_got : {X : Type 0} (P : X → Type 0) (xs : List X) (at : ℕ) (x : X) → slice_get xs at ≡ Some x → All P xs → P x
all_got P [] at x e all = absurd cc
all_got P (y ∷ xs) zero x e all = let same : y ≡ x = cc in subst P same (All-head P y xs all)
all_got P (y ∷ xs) (suc at) x e all = all_got P xs at x e (All-tail P y xs all)

-- the one after those of a front
pub got_behind : {X : Type 0} (front : List X) (x : X) (back : List X) → slice_get (front ++ x ∷ back) (length front) ≡ Some x
got_behind [] x back = refl
got_behind (y ∷ front) x back = got_behind front x back

pub in_rest : {X : Type 0} (first x : X) (xs : List X) → Contains xs x → Contains (first ∷ xs) x
in_rest first x xs (k, inside, is) = (suc k, omega arith, is)

-- what a list of values has is the value of an element
pub in_map : {X Y : Type 0} (f : X → Y) (xs : List X) (y : Y) → Contains (map f xs) y → (x : X) × Contains xs x × (f x ≡ y)
in_map f [] y (k, inside, is) = absurd (omega arith)
in_map f (x ∷ xs) y (zero, inside, is) = (x, (zero, omega arith, refl), is)
in_map f (x ∷ xs) y (suc k, inside, is) =
    let rest = in_map f xs y (k, omega arith, is) in
    (rest.0, in_rest x rest.0 xs rest.1, rest.2)
