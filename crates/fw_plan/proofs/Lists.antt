-- What a filter leaves of a list, and what two tests that agree make of it.
use Rattle.std.proofs.Common.{◌≡◌, ◌↔◌, ℕ, ◌==◌, ◌&&◌, ◌||◌, Bool, true, false, not, cond, List, [], ◌∷◌, ◌++◌, All, Contains, filter, refl, sym, ap, ◌∙◌, subst}
use Rattle.std.specs.List.{list_any}
use Rattle.std.proofs.lemmas.Bool.{cond_both, not-true, not_from_false, or_parts, or_from}
use Rattle.std.proofs.lemmas.List.Elements.{All-cons, All-nil, All-weaker, All-contains, All-filter, All-contains_itself, Contains-append_left, Contains-append_right, Contains-push, filter_agree, filter_passes}
use Rattle.fw_book.specs.Rows.{repeats}

pub funext : {A B : Type 0} (f g : A → B) → ((x : A) → f x ≡ g x) → f ≡ g
funext f g same = λ i x. same x i

or_assoc : (a b c : Bool) → ((a || b) || c) ≡ (a || (b || c))
or_assoc true b c = refl
or_assoc false b c = refl

-- what is there and what is left are all still, when what one of those left has is added
pub gathers : (old new is has rest all : Bool) → is ≡ true → new ≡ (old || has) → (old || ((is && has) || rest)) ≡ all → (new || rest) ≡ all
gathers old new is has rest all true_is e so_far =
    ap (λ (b : Bool). b || rest) e ∙ or_assoc old has rest ∙ ap (λ (b : Bool). old || ((b && has) || rest)) (sym true_is) ∙ so_far

-- the same when it is passed over
pub passes_over : (old is has rest all : Bool) → is ≡ false → (old || ((is && has) || rest)) ≡ all → (old || rest) ≡ all
passes_over old is has rest all false_is so_far = ap (λ (b : Bool). old || ((b && has) || rest)) (sym false_is) ∙ so_far

-- what none of the list is, none of the filtered is
none_left : (p q : ℕ → Bool) (xs : List ℕ) → list_any q xs ≡ false → list_any q (filter p xs) ≡ false
none_left p q [] e = e
none_left p q (x ∷ xs) e =
    let parts = or_parts (q x) (list_any q xs) e in
    cond_both (p x) (x ∷ filter p xs) (filter p xs) (λ (ys : List ℕ). list_any q ys ≡ false)
    (λ _. or_from (q x) (list_any q (filter p xs)) parts.0 (none_left p q xs parts.1))
    (λ _. none_left p q xs parts.1)

-- of a list in which no number stands twice none stands twice in what is left
pub once : (p : ℕ → Bool) (xs : List ℕ) → repeats xs ≡ false → repeats (filter p xs) ≡ false
once p [] e = e
once p (x ∷ xs) e =
    let parts = or_parts (list_any (λ (other : ℕ). other == x) xs) (repeats xs) e in
    cond_both (p x) (x ∷ filter p xs) (filter p xs) (λ (ys : List ℕ). repeats ys ≡ false)
    (λ _. or_from (list_any (λ (other : ℕ). other == x) (filter p xs)) (repeats (filter p xs)) (none_left p (λ (other : ℕ). other == x) xs parts.0) (once p xs parts.1))
    (λ _. once p xs parts.1)

-- what passes is left
kept : (p : ℕ → Bool) (xs : List ℕ) → All (λ (x : ℕ). p x ≡ true → Contains (filter p xs) x) xs
kept p [] = All-nil (λ (x : ℕ). p x ≡ true → Contains [] x)
kept p (x ∷ xs) =
    All-cons (λ (y : ℕ). p y ≡ true → Contains (filter p (x ∷ xs)) y) x xs
    (λ passes. subst (λ (b : Bool). Contains (cond b (x ∷ filter p xs) (filter p xs)) x) (sym passes)
    (Contains-append_left (x ∷ []) (filter p xs) x (Contains-push [] x)))
    (All-weaker (λ (y : ℕ). p y ≡ true → Contains (filter p xs) y) (λ (y : ℕ). p y ≡ true → Contains (filter p (x ∷ xs)) y)
    (λ y left passes. cond_both (p x) (x ∷ filter p xs) (filter p xs) (λ (ys : List ℕ). Contains ys y)
    (λ _. Contains-append_right (x ∷ []) (filter p xs) y (left passes)) (λ _. left passes)) xs (kept p xs))

-- just what passes is left
pub filter_contains : (p : ℕ → Bool) (xs : List ℕ) (x : ℕ) → Contains (filter p xs) x ↔ (Contains xs x × (p x ≡ true))
filter_contains p xs x = (
  λ there. (
    All-contains (Contains xs) (filter p xs) x (All-filter p (Contains xs) xs (All-contains_itself xs)) there,
    All-contains (λ (y : ℕ). p y ≡ true) (filter p xs) x (filter_passes p xs) there,
  ),
  λ is. All-contains (λ (y : ℕ). p y ≡ true → Contains (filter p xs) y) xs x (kept p xs) is.0 is.1,
)

-- what lacks is in the list and has nothing
pub exact_from : (has : ℕ → Bool) (meters left : List ℕ) → left ≡ filter (λ (m : ℕ). not (has m)) meters
    → (meter : ℕ) → Contains left meter ↔ (Contains meters meter × (has meter ≡ false))
exact_from has meters left e meter =
    let both = filter_contains (λ (m : ℕ). not (has m)) meters meter in (
      λ there.
          let is = both.0 (subst (λ (l : List ℕ). Contains l meter) e there) in
          (is.0, not-true (has meter) is.1),
      λ is. subst (λ (l : List ℕ). Contains l meter) (sym e) (both.1 (is.0, not_from_false (has meter) is.1)),
    )

pub once_from : (has : ℕ → Bool) (meters left : List ℕ) → left ≡ filter (λ (m : ℕ). not (has m)) meters
    → repeats meters ≡ false → repeats left ≡ false
once_from has meters left e none =
    subst (λ (l : List ℕ). repeats l ≡ false) (sym e) (once (λ (m : ℕ). not (has m)) meters none)

-- two tests that agree leave the same
pub lacking_from : (have has : ℕ → Bool) (meters old left : List ℕ) → ((m : ℕ) → have m ≡ has m) → old ≡ []
    → left ≡ old ++ filter (λ (m : ℕ). not (have m)) meters → left ≡ filter (λ (m : ℕ). not (has m)) meters
lacking_from have has meters old left same none e =
    e ∙ ap (λ (l : List ℕ). l ++ filter (λ (m : ℕ). not (have m)) meters) none
    ∙ filter_agree (λ (m : ℕ). not (have m)) (λ (m : ℕ). not (has m)) (λ m. ap not (same m)) meters
