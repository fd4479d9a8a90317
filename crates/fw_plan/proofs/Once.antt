-- Numbers each where it stands first, with one more behind them.
use Rattle.std.proofs.Common.{◌≡◌, ℕ, ◌+◌, ◌<◌, ◌==◌, ◌||◌, Bool, true, false, not, cond, List, [], ◌∷◌, ◌++◌, take, length, filter, inl, inr, refl, sym, ap, ◌∙◌, append-nil}
use Rattle.std.specs.Prelude.{slice_index_or}
use Rattle.std.specs.List.{list_any}
use Rattle.std.proofs.lemmas.Bool.{cases_eq, cond_both, eq-eqb, eqb-true, ne_eqb, not-false}
use Rattle.std.proofs.lemmas.List.{take_more}
use Rattle.std.proofs.lemmas.List.Elements.{filter-append}
use Rattle.fw_plan.specs.Private.{with_new}
use Rattle.fw_plan.specs.Ranges.{each_once}

abbrev has : ℕ → List ℕ → Bool
has x xs = list_any (λ (y : ℕ). y == x) xs

-- a list without a number
abbrev but : ℕ → List ℕ → List ℕ
but z xs = filter (λ (y : ℕ). not (y == z)) xs

-- which has any other number if it had it before
has_but : (x z : ℕ) (xs : List ℕ) → (z == x) ≡ false → has x (but z xs) ≡ has x xs
has_but x z [] ne = refl
has_but x z (y ∷ ys) ne =
    cond_both (not (y == z)) (y ∷ but z ys) (but z ys) (λ (l : List ℕ). has x l ≡ ((y == x) || has x ys))
    (λ _. ap (λ (b : Bool). (y == x) || b) (has_but x z ys ne))
    (λ is. has_but x z ys ne ∙ sym (ap (λ (b : Bool). b || has x ys) (ap (λ (n : ℕ). n == x) (eqb-true y z (not-false (y == z) is)) ∙ ne)))

-- the last of a list goes with it if it is the same, and else stays
last_goes : (x z : ℕ) (xs : List ℕ) → z ≡ x → but z (xs ++ (x ∷ [])) ≡ but z xs
last_goes x z xs e =
    filter-append (λ (y : ℕ). not (y == z)) xs (x ∷ [])
    ∙ ap (λ (l : List ℕ). but z xs ++ l) (ap (λ (b : Bool). cond (not b) (x ∷ []) []) (eq-eqb x z (sym e)))
    ∙ append-nil (but z xs)

last_stays : (x z : ℕ) (xs : List ℕ) → (z ≡ x → ⊥) → but z (xs ++ (x ∷ [])) ≡ but z xs ++ (x ∷ [])
last_stays x z xs ne =
    filter-append (λ (y : ℕ). not (y == z)) xs (x ∷ [])
    ∙ ap (λ (l : List ℕ). but z xs ++ l) (ap (λ (b : Bool). cond (not b) (x ∷ []) []) (ne_eqb x z (λ e. ne (sym e))))

more_same : (x z : ℕ) (xs : List ℕ) (b : Bool) → z ≡ x → but z (cond b xs (xs ++ (x ∷ []))) ≡ but z xs
more_same x z xs true e = refl
more_same x z xs false e = last_goes x z xs e

more_other : (x z : ℕ) (xs : List ℕ) (b : Bool) → (z ≡ x → ⊥)
    → z ∷ but z (cond b xs (xs ++ (x ∷ []))) ≡ cond b (z ∷ but z xs) (z ∷ (but z xs ++ (x ∷ [])))
more_other x z xs true ne = refl
more_other x z xs false ne = ap (λ (l : List ℕ). z ∷ l) (last_stays x z xs ne)

once_more : (x : ℕ) (xs : List ℕ) → each_once (xs ++ (x ∷ [])) ≡ with_new (each_once xs) x
once_more x [] = refl
once_more x (z ∷ zs) =
    let xs = each_once zs in
    let so_far = ap (λ (l : List ℕ). z ∷ but z l) (once_more x zs) in
    elim (cases_eq z x) [
      | inl e ↦ so_far ∙ ap (λ (l : List ℕ). z ∷ l) (more_same x z xs (has x xs) e)
          ∙ sym (ap (λ (b : Bool). cond (b || has x (but z xs)) (z ∷ but z xs) (z ∷ (but z xs ++ (x ∷ [])))) (eq-eqb z x e))
      | inr ne ↦ so_far ∙ more_other x z xs (has x xs) ne
          ∙ sym (ap (λ (b : Bool). cond (b || has x (but z xs)) (z ∷ but z xs) (z ∷ (but z xs ++ (x ∷ [])))) (ne_eqb z x ne)
          ∙ ap (λ (b : Bool). cond b (z ∷ but z xs) (z ∷ (but z xs ++ (x ∷ [])))) (has_but x z xs (ne_eqb z x ne)))
    ]

-- the next of a list
pub once_next : (numbers : List ℕ) (i number : ℕ) (old new : List ℕ) → i < length numbers → old ≡ each_once (take i numbers)
    → new ≡ with_new old number → slice_index_or numbers i number ≡ number → new ≡ each_once (take (i + 1) numbers)
once_next numbers i number old new within so_far one at =
    one ∙ ap (λ (l : List ℕ). with_new l number) so_far ∙ sym (once_more number (take i numbers))
    ∙ ap (λ (n : ℕ). each_once (take i numbers ++ (n ∷ []))) (sym at) ∙ ap each_once (sym (take_more numbers i number within))
