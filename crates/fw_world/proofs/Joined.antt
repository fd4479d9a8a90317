-- Lists in which no value stands twice, and what is found in them.
use Rattle.std.proofs.Common.{◌≡◌, ◌≢◌, ℕ, zero, suc, ◌<◌, ◌==◌, nat_eq, Bool, true, false, cond, ◌⊎◌, inl, inr, List, [], ◌∷◌, ◌++◌, map, length, slice_index_or, is_some, Some, find, refl, sym, ap, subst, ◌∙◌, ⊎_elim, arith}
use Rattle.std.specs.List.{flat_map, AllPairs, Contains}
use Rattle.std.specs.Map.{lookup}
use Rattle.std.proofs.lemmas.Bool.{cases_Bool, cond-true, cond-false, false≢true}
use Rattle.std.proofs.lemmas.Bool.Decides.{Decides-eqb}

-- x stands in the list
abbrev pub In : {X : Type 0} → X → List X → Type 0
In x [] = ⊥
In x (y ∷ ys) = (y ≡ x) ⊎ In x ys

-- no value stands in it twice
abbrev pub Once : {X : Type 0} → List X → Type 0
Once [] = Unit {0}
Once (x ∷ xs) = ¬ In x xs × Once xs

-- ---- by places

in_at : {X : Type 0} (x : X) (xs : List X) (k : ℕ) → k < length xs → slice_index_or xs k x ≡ x → In x xs
in_at x [] k within is = absurd (omega arith)
in_at x (y ∷ ys) zero within is = inl is
in_at x (y ∷ ys) (suc k) within is = inr (in_at x ys k (omega arith) is)

pub in_contained : {X : Type 0} (x : X) (xs : List X) → Contains xs x → In x xs
in_contained x xs c = in_at x xs c.0 c.1 c.2

pub contained_in : {X : Type 0} (x : X) (xs : List X) → In x xs → Contains xs x
contained_in x [] is = absurd is
contained_in x (y ∷ ys) (inl same) = (0, omega arith, same)
contained_in x (y ∷ ys) (inr later) = let c = contained_in x ys later in (suc c.0, omega (arith, c.1), c.2)

found_at : {X : Type 0} (d : X) (xs : List X) (k : ℕ) → k < length xs → In (slice_index_or xs k d) xs
found_at d [] k within = absurd (omega arith)
found_at d (x ∷ xs) zero within = inl refl
found_at d (x ∷ xs) (suc k) within = inr (found_at d xs k (omega arith))

pub pairs_once : {X : Type 0} (xs : List X) → Once xs → AllPairs ◌≢◌ xs
pairs_once [] once i j d before within = absurd (omega arith)
pairs_once (x ∷ xs) once zero zero d before within = absurd (omega arith)
pairs_once (x ∷ xs) once zero (suc j) d before within = λ same. once.0 (subst (λ y. In y xs) (sym same) (found_at d xs j (omega arith)))
pairs_once (x ∷ xs) once (suc i) zero d before within = absurd (omega arith)
pairs_once (x ∷ xs) once (suc i) (suc j) d before within = pairs_once xs once.1 i j d (omega arith) (omega arith)

-- ---- two lists in a row

in_left : {X : Type 0} (x : X) (xs ys : List X) → In x xs → In x (xs ++ ys)
in_left x [] ys is = absurd is
in_left x (y ∷ xs) ys (inl same) = inl same
in_left x (y ∷ xs) ys (inr later) = inr (in_left x xs ys later)

in_right : {X : Type 0} (x : X) (xs ys : List X) → In x ys → In x (xs ++ ys)
in_right x [] ys is = is
in_right x (y ∷ xs) ys is = inr (in_right x xs ys is)

in_parts : {X : Type 0} (x : X) (xs ys : List X) → In x (xs ++ ys) → In x xs ⊎ In x ys
in_parts x [] ys is = inr is
in_parts x (y ∷ xs) ys (inl same) = inl (inl same)
in_parts x (y ∷ xs) ys (inr later) = ⊎_elim (λ there. inl (inr there)) (λ there. inr there) (in_parts x xs ys later)

once_parts : {X : Type 0} (xs ys : List X) → Once xs → Once ys → ((x : X) → In x xs → ¬ In x ys) → Once (xs ++ ys)
once_parts [] ys first second apart = second
once_parts (x ∷ xs) ys first second apart = (
  λ is. ⊎_elim (λ there. first.0 there) (λ there. apart x (inl refl) there) (in_parts x xs ys is),
  once_parts xs ys first.1 second (λ y there. apart y (inr there)),
)

-- one value more
pub once_more : {X : Type 0} (x : X) (xs : List X) → Once xs → ¬ In x xs → Once (xs ++ x ∷ [])
once_more x xs once new =
    once_parts xs (x ∷ []) once ((λ is. absurd is), tt) (λ y there is. ⊎_elim (λ same. new (subst (λ z. In z xs) (sym same) there)) (λ none. none) is)

-- ---- of each element

pub in_map : {X Y : Type 0} (f : X → Y) (x : X) (xs : List X) → In x xs → In (f x) (map f xs)
in_map f x [] is = absurd is
in_map f x (y ∷ xs) (inl same) = inl (ap f same)
in_map f x (y ∷ xs) (inr later) = inr (in_map f x xs later)

pub record Mapped {X Y : Type 0} (f : X → Y) (y : Y) (xs : List X) : Type 0 where
  pub of : X
  pub there : In of xs
  pub is : f of ≡ y

pub from_map : {X Y : Type 0} (f : X → Y) (y : Y) (xs : List X) → In y (map f xs) → Mapped f y xs
from_map f y [] is = absurd is
from_map f y (x ∷ xs) (inl same) = record { of = x; there = inl refl; is = same }
from_map f y (x ∷ xs) (inr later) = let from = from_map f y xs later in record { of = from.of; there = inr from.there; is = from.is }

-- ---- a list of each element, all of them in a row

pub record From {X A : Type 0} (f : X → List A) (a : A) (xs : List X) : Type 0 where
  pub of : X
  pub there : In of xs
  pub has : In a (f of)

pub in_joined : {X A : Type 0} (f : X → List A) (x : X) (a : A) (xs : List X) → In x xs → In a (f x) → In a (flat_map f xs)
in_joined f x a [] is has = absurd is
in_joined f x a (y ∷ xs) (inl same) has = in_left a (f y) (flat_map f xs) (subst (λ z. In a (f z)) (sym same) has)
in_joined f x a (y ∷ xs) (inr later) has = in_right a (f y) (flat_map f xs) (in_joined f x a xs later has)

pub from_joined : {X A : Type 0} (f : X → List A) (a : A) (xs : List X) → In a (flat_map f xs) → From f a xs
from_joined f a [] is = absurd is
from_joined f a (x ∷ xs) is =
    ⊎_elim
    (λ here. record { of = x; there = inl refl; has = here })
    (λ there. let from = from_joined f a xs there in record { of = from.of; there = inr from.there; has = from.has })
    (in_parts a (f x) (flat_map f xs) is)

-- No value stands twice in the joined lists if none does in each of them. The tag of each value is the key of its list's element, and
-- no two elements have one key.
pub once_joined : {X A K : Type 0} (f : X → List A) (key : X → K) (tag : A → K) (xs : List X) → Once (map key xs)
    → ((x : X) → In x xs → Once (f x)) → ((x : X) (a : A) → In x xs → In a (f x) → tag a ≡ key x) → Once (flat_map f xs)
once_joined f key tag [] keys each tagged = tt
once_joined f key tag (x ∷ xs) keys each tagged =
    once_parts (f x) (flat_map f xs) (each x (inl refl))
    (once_joined f key tag xs keys.1 (λ y is. each y (inr is)) (λ y a is. tagged y a (inr is)))
    (λ a here there.
    let from = from_joined f a xs there in
    let same : key from.of ≡ key x = sym (tagged from.of a (inr from.there) from.has) ∙ tagged x a (inl refl) here in
    keys.0 (subst (λ k. In k (map key xs)) same (in_map key from.of xs from.there)))

-- ---- what is looked up

pub found_in : {V : Type 0} (k : ℕ) (v : V) (es : List (ℕ × V)) → lookup (nat_eq k) es ≡ Some v → In (k, v) es
found_in k v [] e = absurd cc
found_in {V} k v (entry ∷ entries) e = go (nat_eq k entry.0) refl e (found_in k v entries)
  where
    go : (b : Bool) → nat_eq k entry.0 ≡ b → cond b (Some entry.1) (lookup (nat_eq k) entries) ≡ Some v → (lookup (nat_eq k) entries ≡ Some v → In (k, v) entries) → In (k, v) (entry ∷ entries)
    go true here e later =
        let key : k ≡ entry.0 = (Decides-eqb k entry.0).0 here in
        let value : entry.1 ≡ v = cc in
        inl (λ i. (sym key i, value i))
    go false away e later = inr (later e)

pub in_found : {V : Type 0} (k : ℕ) (v : V) (es : List (ℕ × V)) → Once (map (λ (entry : ℕ × V). entry.0) es) → In (k, v) es → lookup (nat_eq k) es ≡ Some v
in_found k v [] once is = absurd is
in_found k v (entry ∷ entries) once (inl same) =
    cond-true (nat_eq k entry.0) (Some entry.1) (lookup (nat_eq k) entries) ((Decides-eqb k entry.0).1 (sym (ap (λ e. e.0) same))) ∙ ap (λ e. Some e.1) same
in_found {V} k v (entry ∷ entries) once (inr later) =
    let key : In k (map (λ (e : ℕ × V). e.0) entries) = in_map (λ (e : ℕ × V). e.0) (k, v) entries later in
    ⊎_elim
    (λ here. absurd (once.0 (subst (λ n. In n (map (λ (e : ℕ × V). e.0) entries)) ((Decides-eqb k entry.0).0 here) key)))
    (λ away. cond-false (nat_eq k entry.0) (Some entry.1) (lookup (nat_eq k) entries) away ∙ in_found k v entries once.1 later)
    (cases_Bool (nat_eq k entry.0))

-- a key is there exactly if it finds something
pub key_found : {V : Type 0} (k : ℕ) (es : List (ℕ × V)) → In k (map (λ (entry : ℕ × V). entry.0) es) → is_some (lookup (nat_eq k) es) ≡ true
key_found k [] is = absurd is
key_found {V} k (entry ∷ entries) is = go (nat_eq k entry.0) refl is (key_found k entries)
  where
    go : (b : Bool) → nat_eq k entry.0 ≡ b → In k (map (λ (e : ℕ × V). e.0) (entry ∷ entries)) → (In k (map (λ (e : ℕ × V). e.0) entries) → is_some (lookup (nat_eq k) entries) ≡ true)
        → is_some (cond b (Some entry.1) (lookup (nat_eq k) entries)) ≡ true
    go true here is later = refl
    go false away (inl same) later = absurd (false≢true (sym away ∙ (Decides-eqb k entry.0).1 (sym same)))
    go false away (inr there) later = later there

pub found_key : {V : Type 0} (k : ℕ) (es : List (ℕ × V)) → is_some (lookup (nat_eq k) es) ≡ true → In k (map (λ (entry : ℕ × V). entry.0) es)
found_key k [] e = absurd cc
found_key {V} k (entry ∷ entries) e = go (nat_eq k entry.0) refl e (found_key k entries)
  where
    go : (b : Bool) → nat_eq k entry.0 ≡ b → is_some (cond b (Some entry.1) (lookup (nat_eq k) entries)) ≡ true → (is_some (lookup (nat_eq k) entries) ≡ true → In k (map (λ (e : ℕ × V). e.0) entries))
        → In k (map (λ (e : ℕ × V). e.0) (entry ∷ entries))
    go true here e later = inl (sym ((Decides-eqb k entry.0).0 here))
    go false away e later = inr (later e)

-- ---- what is searched for by a number of its own

pub record Searched {X : Type 0} (key : X → ℕ) (k : ℕ) (x : X) (xs : List X) : Type 0 where
  pub there : In x xs
  pub is : key x ≡ k

pub search_in : {X : Type 0} (key : X → ℕ) (k : ℕ) (x : X) (xs : List X) → find (λ y. key y == k) xs ≡ Some x → Searched key k x xs
search_in key k x [] e = absurd cc
search_in key k x (y ∷ ys) e = go (key y == k) refl e (search_in key k x ys)
  where
    go : (b : Bool) → (key y == k) ≡ b → cond b (Some y) (find (λ z. key z == k) ys) ≡ Some x → (find (λ z. key z == k) ys ≡ Some x → Searched key k x ys) → Searched key k x (y ∷ ys)
    go true here e later = let same : y ≡ x = cc in record { there = inl same; is = ap key (sym same) ∙ (Decides-eqb (key y) k).0 here }
    go false away e later = let s = later e in record { there = inr s.there; is = s.is }

pub in_search : {X : Type 0} (key : X → ℕ) (x : X) (xs : List X) → Once (map key xs) → In x xs → find (λ y. key y == key x) xs ≡ Some x
in_search key x [] once is = absurd is
in_search key x (y ∷ ys) once (inl same) =
    cond-true (key y == key x) (Some y) (find (λ z. key z == key x) ys) ((Decides-eqb (key y) (key x)).1 (ap key same)) ∙ ap Some same
in_search key x (y ∷ ys) once (inr later) =
    ⊎_elim
    (λ here. absurd (once.0 (subst (λ n. In n (map key ys)) (sym ((Decides-eqb (key y) (key x)).0 here)) (in_map key x ys later))))
    (λ away. cond-false (key y == key x) (Some y) (find (λ z. key z == key x) ys) away ∙ in_search key x ys once.1 later)
    (cases_Bool (key y == key x))
