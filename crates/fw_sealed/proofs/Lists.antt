-- What lists have that begin with an element, and what stands before and behind in lists that are the same.
use Rattle.std.proofs.Common.{◌≡◌, ◌⊎◌, inl, inr, ℕ, List, [], ◌∷◌, ◌++◌, length, Contains, refl, arith}
use Rattle.std.proofs.lemmas.List.Elements.{Contains-append_left, Contains-append_right, Contains-append_cases, Contains-push, Contains-push_cases}

pub none_there : {X : Type 0} (x : X) → Contains [] x → ⊥
none_there x (k, within, same) = absurd (omega arith)

pub later : {X : Type 0} (first x : X) (xs : List X) → Contains xs x → Contains (first ∷ xs) x
later first x xs has = Contains-append_right (first ∷ []) xs x has

pub first_is : {X : Type 0} (x : X) (xs : List X) → Contains (x ∷ xs) x
first_is x xs = Contains-append_left (x ∷ []) xs x (Contains-push [] x)

one_there : {X : Type 0} (y x : X) → Contains (y ∷ []) x → y ≡ x
one_there {X} y x has = elim (Contains-push_cases (let none : List X = [] in none) y x has) [
  | inl none ↦ absurd (none_there x none)
  | inr same ↦ same
]

-- it is the first one, or one of the others
pub first_or : {X : Type 0} (y x : X) (xs : List X) → Contains (y ∷ xs) x → (y ≡ x) ⊎ Contains xs x
first_or y x xs has = elim (Contains-append_cases (y ∷ []) xs x has) [
  | inl here ↦ inl (one_there y x here)
  | inr there ↦ inr there
]

pub same_first : {X : Type 0} (a b : X) (xs ys : List X) → a ∷ xs ≡ b ∷ ys → a ≡ b
same_first a b xs ys e = cc

same_rest : {X : Type 0} (a b : X) (xs ys : List X) → a ∷ xs ≡ b ∷ ys → xs ≡ ys
same_rest a b xs ys e = cc

-- beginnings of one length are the same if all is, and so is what follows them
pub same_parts : (a b xs ys : List ℕ) → length a ≡ length b → a ++ xs ≡ b ++ ys → (a ≡ b) × (xs ≡ ys)
same_parts [] [] xs ys size e = (refl, e)
same_parts [] (y ∷ b) xs ys size e = absurd (omega (arith, size))
same_parts (x ∷ a) [] xs ys size e = absurd (omega (arith, size))
same_parts (x ∷ a) (y ∷ b) xs ys size e =
    let rest = same_parts a b xs ys (omega (arith, size)) (same_rest x y (a ++ xs) (b ++ ys) e) in
    let first : x ≡ y = same_first x y (a ++ xs) (b ++ ys) e in
    (λ i. first i ∷ rest.0 i, rest.1)
