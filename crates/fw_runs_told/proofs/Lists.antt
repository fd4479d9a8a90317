-- Elements of lists.
use Rattle.std.proofs.Common.{◌≡◌, ◌≢◌, ◌++◌, ◌+◌, ◌<◌, ◌⊎◌, ℕ, zero, suc, Bool, true, false, cond, List, [], ◌∷◌, map, Option, Some, None, length, slice_get, slice_index_or, inl, inr, refl, sym, ap, subst, ◌∙◌, arith, ⊎_elim}
use Rattle.std.specs.Prelude.{All, AllPairs, Contains, filter}
use Rattle.std.specs.Option.{option_map}
use Rattle.std.proofs.lemmas.Bool.{cases_order}
use Rattle.std.proofs.lemmas.List.{length-map}
use Rattle.std.proofs.lemmas.List.Elements.{All-filter, Contains-push_cases}

pub same_some : {X : Type 0} (a b : X) → Some a ≡ Some b → a ≡ b
same_some a b e = cc

pub never_some : {X : Type 0} (x : X) (o : Option X) → o ≡ None → o ≡ Some x → ⊥
never_some x o none is = cc

pub cases_Option : {X : Type 0} (o : Option X) → (o ≡ None) ⊎ ((x : X) × (o ≡ Some x))
cases_Option None = inl refl
cases_Option (Some x) = inr (x, refl)

-- ---- elements

pub none_in : {X : Type 0} (x : X) → Contains [] x → ⊥
none_in x (k, inside, is) = omega arith

pub one_in : {X : Type 0} (y x : X) → Contains (y ∷ []) x → y ≡ x
one_in y x c = ⊎_elim (λ (none : Contains [] x). absurd (none_in x none)) (λ (same : y ≡ x). same) (Contains-push_cases [] y x c)

pub first_in : {X : Type 0} (x : X) (xs : List X) → Contains (x ∷ xs) x
first_in x xs = (zero, omega arith, refl)

pub in_rest : {X : Type 0} (y x : X) (xs : List X) → Contains xs x → Contains (y ∷ xs) x
in_rest y x xs (k, inside, is) = (suc k, omega arith, is)

-- the first one, or one of the others
pub in_cases : {X : Type 0} (y x : X) (xs : List X) → Contains (y ∷ xs) x → (y ≡ x) ⊎ Contains xs x
in_cases y x xs (zero, inside, is) = inl is
in_cases y x xs (suc k, inside, is) = inr (k, omega arith, is)

pub in_map : {X Y : Type 0} (g : X → Y) (xs : List X) (y : Y) → Contains (map g xs) y → (x : X) × Contains xs x × (g x ≡ y)
in_map g [] y c = absurd (none_in y c)
in_map g (x ∷ xs) y (zero, inside, is) = (x, first_in x xs, is)
in_map g (x ∷ xs) y (suc k, inside, is) =
    let rest = in_map g xs y (k, omega arith, is) in
    (rest.0, in_rest x rest.0 xs rest.1, rest.2)

pub map_in : {X Y : Type 0} (g : X → Y) (xs : List X) (x : X) → Contains xs x → Contains (map g xs) (g x)
map_in g [] x c = absurd (none_in x c)
map_in g (y ∷ xs) x (zero, inside, is) = (zero, omega arith, ap g is)
map_in g (y ∷ xs) x (suc k, inside, is) = in_rest (g y) (g x) (map g xs) (map_in g xs x (k, omega arith, is))

with_first : {X : Type 0} (b : Bool) (y x : X) (xs : List X) → Contains xs x → Contains (cond b (y ∷ xs) xs) x
with_first true y x xs c = in_rest y x xs c
with_first false y x xs c = c

pub in_filter : {X : Type 0} (test : X → Bool) (xs : List X) (x : X) → Contains xs x → test x ≡ true → Contains (filter test xs) x
in_filter test [] x c passes = absurd (none_in x c)
in_filter test (y ∷ xs) x c passes =
    ⊎_elim
    (λ (same : y ≡ x).
    subst (λ (b : Bool). Contains (cond b (y ∷ filter test xs) (filter test xs)) x) (sym (ap test same ∙ passes))
    (subst (λ z. Contains (z ∷ filter test xs) x) (sym same) (first_in x (filter test xs))))
    (λ (later : Contains xs x). with_first (test y) y x (filter test xs) (in_filter test xs x later passes))
    (in_cases y x xs c)

without_first : {X : Type 0} (b : Bool) (y x : X) (xs : List X) → Contains (cond b (y ∷ xs) xs) x → (y ≡ x) ⊎ Contains xs x
without_first true y x xs c = in_cases y x xs c
without_first false y x xs c = inr c

pub filter_in : {X : Type 0} (test : X → Bool) (xs : List X) (x : X) → Contains (filter test xs) x → Contains xs x
filter_in test [] x c = c
filter_in test (y ∷ xs) x c =
    ⊎_elim (λ (same : y ≡ x). subst (λ z. Contains (y ∷ xs) z) same (first_in y xs))
    (λ (later : Contains (filter test xs) x). in_rest y x xs (filter_in test xs x later))
    (without_first (test y) y x (filter test xs) c)

-- ---- places

pub read_at : {X : Type 0} (xs : List X) (at : ℕ) (d : X) → at < length xs → slice_get xs at ≡ Some (slice_index_or xs at d)
read_at [] at d inside = absurd (omega arith)
read_at (x ∷ xs) zero d inside = refl
read_at (x ∷ xs) (suc at) d inside = read_at xs at d (omega arith)

pub got_inside : {X : Type 0} (xs : List X) (at : ℕ) (x : X) → slice_get xs at ≡ Some x → at < length xs
got_inside [] at x e = absurd cc
got_inside (y ∷ xs) zero x e = omega arith
got_inside (y ∷ xs) (suc at) x e = let inside = got_inside xs at x e in omega arith

pub got_is : {X : Type 0} (xs : List X) (at : ℕ) (x d : X) → slice_get xs at ≡ Some x → slice_index_or xs at d ≡ x
got_is xs at x d e = same_some (slice_index_or xs at d) x (sym (read_at xs at d (got_inside xs at x e)) ∙ e)

pub got_in : {X : Type 0} (xs : List X) (at : ℕ) (x : X) → slice_get xs at ≡ Some x → Contains xs x
got_in xs at x e = (at, got_inside xs at x e, got_is xs at x x e)

-- an element has a place
pub in_got : {X : Type 0} (xs : List X) (x : X) → Contains xs x → (at : ℕ) × (slice_get xs at ≡ Some x)
in_got xs x (at, inside, is) = (at, read_at xs at x inside ∙ ap Some is)

pub got_mapped : {X Y : Type 0} (g : X → Y) (xs : List X) (at : ℕ) → slice_get (map g xs) at ≡ option_map g (slice_get xs at)
got_mapped g [] at = refl
got_mapped g (x ∷ xs) zero = refl
got_mapped g (x ∷ xs) (suc at) = got_mapped g xs at

pub mapped_got : {X Y : Type 0} (g : X → Y) (xs : List X) (at : ℕ) (y : Y) → slice_get (map g xs) at ≡ Some y → (x : X) × (slice_get xs at ≡ Some x) × (g x ≡ y)
mapped_got g [] at y e = absurd cc
mapped_got g (x ∷ xs) zero y e = (x, refl, same_some (g x) y e)
mapped_got g (x ∷ xs) (suc at) y e = mapped_got g xs at y e

-- ---- two lists

pub got_left : {X : Type 0} (xs ys : List X) (at : ℕ) (x : X) → slice_get xs at ≡ Some x → slice_get (xs ++ ys) at ≡ Some x
got_left [] ys at x e = absurd cc
got_left (y ∷ xs) ys zero x e = e
got_left (y ∷ xs) ys (suc at) x e = got_left xs ys at x e

pub got_right : {X : Type 0} (xs ys : List X) (at : ℕ) → slice_get (xs ++ ys) (length xs + at) ≡ slice_get ys at
got_right [] ys at = let none : 0 + at ≡ at = omega arith in ap (λ (n : ℕ). slice_get ys n) none
got_right (x ∷ xs) ys at =
    let later : length (x ∷ xs) + at ≡ suc (length xs + at) = omega arith in
    ap (λ (n : ℕ). slice_get (x ∷ (xs ++ ys)) n) later ∙ got_right xs ys at

pub got_cases : {X : Type 0} (xs ys : List X) (at : ℕ) (x : X) → slice_get (xs ++ ys) at ≡ Some x → (slice_get xs at ≡ Some x) ⊎ ((k : ℕ) × (at ≡ length xs + k) × (slice_get ys k ≡ Some x))
got_cases [] ys at x e = inr (at, omega arith, e)
got_cases (y ∷ xs) ys zero x e = inl e
got_cases (y ∷ xs) ys (suc at) x e =
    ⊎_elim (λ (h : slice_get xs at ≡ Some x). inl h)
    (λ (h : (k : ℕ) × (at ≡ length xs + k) × (slice_get ys k ≡ Some x)). inr (h.0, (let same : at ≡ length xs + h.0 = h.1 in omega (arith, same)), h.2))
    (got_cases xs ys at x e)

-- ---- what stands once

pub one_place : {X : Type 0} (xs : List X) (i j : ℕ) (x : X) → AllPairs ◌≢◌ xs → slice_get xs i ≡ Some x → slice_get xs j ≡ Some x → i ≡ j
one_place xs i j x apart at also =
    let first : slice_index_or xs i x ≡ x = got_is xs i x x at in
    let second : slice_index_or xs j x ≡ x = got_is xs j x x also in
    ⊎_elim (λ (same : i ≡ j). same)
    (λ (other : (i < j) ⊎ (j < i)). ⊎_elim
    (λ (below : i < j). absurd (apart i j x below (got_inside xs j x also) (first ∙ sym second)))
    (λ (above : j < i). absurd (apart j i x above (got_inside xs i x at) (second ∙ sym first))) other)
    (cases_order i j)

-- two elements of one value stand in one place
pub one_value : {X Y : Type 0} (g : X → Y) (xs : List X) (i j : ℕ) (a b : X) → AllPairs ◌≢◌ (map g xs) → slice_get xs i ≡ Some a → slice_get xs j ≡ Some b → g a ≡ g b → i ≡ j
one_value g xs i j a b apart at also same =
    one_place (map g xs) i j (g a) apart (got_mapped g xs i ∙ ap (option_map g) at) (got_mapped g xs j ∙ ap (option_map g) also ∙ ap Some (sym same))

pub pairs_tail : {X : Type 0} (R : X → X → Type 0) (x : X) (xs : List X) → AllPairs R (x ∷ xs) → AllPairs R xs
pairs_tail R x xs h i j d order inside = h (suc i) (suc j) d (omega arith) (omega arith)

pub pairs_head : {X : Type 0} (R : X → X → Type 0) (x : X) (xs : List X) → AllPairs R (x ∷ xs) → All (R x) xs
pairs_head R x xs h k d inside = h zero (suc k) d (omega arith) (omega arith)

pub pairs_cons : {X : Type 0} (R : X → X → Type 0) (x : X) (xs : List X) → All (R x) xs → AllPairs R xs → AllPairs R (x ∷ xs)
pairs_cons R x xs first rest zero zero d order inside = absurd (omega (arith, order))
pairs_cons R x xs first rest zero (suc j) d order inside = first j d (omega (arith, inside))
pairs_cons R x xs first rest (suc i) zero d order inside = absurd (omega (arith, order))
pairs_cons R x xs first rest (suc i) (suc j) d order inside = rest i j d (omega (arith, order)) (omega (arith, inside))

pairs_first : {X : Type 0} (R : X → X → Type 0) (b : Bool) (x : X) (xs : List X) → All (R x) xs → AllPairs R xs → AllPairs R (cond b (x ∷ xs) xs)
pairs_first R true x xs first rest = pairs_cons R x xs first rest
pairs_first R false x xs first rest = rest

pub pairs_filter : {X : Type 0} (R : X → X → Type 0) (test : X → Bool) (xs : List X) → AllPairs R xs → AllPairs R (filter test xs)
pairs_filter R test [] h = h
pairs_filter R test (x ∷ xs) h =
    pairs_first R (test x) x (filter test xs) (All-filter test (R x) xs (pairs_head R x xs h)) (pairs_filter R test xs (pairs_tail R x xs h))

index_mapped : {X Y : Type 0} (g : X → Y) (xs : List X) (at : ℕ) (d : X) → slice_index_or (map g xs) at (g d) ≡ g (slice_index_or xs at d)
index_mapped g [] at d = refl
index_mapped g (x ∷ xs) zero d = refl
index_mapped g (x ∷ xs) (suc at) d = index_mapped g xs at d

pub pairs_map : {X Y : Type 0} (R : Y → Y → Type 0) (g : X → Y) (xs : List X) → AllPairs R (map g xs) → AllPairs (λ (a b : X). R (g a) (g b)) xs
pairs_map R g xs h i j d order inside =
    let within : j < length (map g xs) = omega (arith, length-map xs g, inside) in
    subst (λ y. R y (g (slice_index_or xs j d))) (index_mapped g xs i d)
    (subst (λ y. R (slice_index_or (map g xs) i (g d)) y) (index_mapped g xs j d) (h i j (g d) order within))
