-- What is true of a window, however it was found.
use Rattle.std.proofs.Common.{◌≡◌, ℕ, zero, suc, ◌+◌, ◌<◌, ◌≤◌, Bool, true, false, not, cond, List, [], ◌∷◌, length, get_or, refl, sym, ap, subst, ◌∙◌, inl, inr, arith}
use Rattle.std.proofs.lemmas.Bool.{cases_lt}
use Rattle.std.proofs.lemmas.List.{length-take, get_or-take, get_or_default}
use Rattle.std.proofs.lemmas.List.Elements.{filter_passes, All-take, All-filter}
use Rattle.std.proofs.lemmas.List.FromFn.{length-range_with_len, get_or-range_with_len}
use Rattle.std.proofs.lemmas.List.Kept.{AllPairs-from_increasing, IsStrictlyIncreasing-filter}
use Rattle.std.specs.List.{All, Contains, filter, range_with_len}
use Rattle.std.specs.List.Sorted.{IsStrictlyIncreasing}
use Rattle.fw_blocks.specs.Members.{has, IsAbsent, absent_numbers, window}

absent_numbers-increase : (members : List Bool) → IsStrictlyIncreasing (absent_numbers members)
absent_numbers-increase members =
    IsStrictlyIncreasing-filter (λ i. not (has members i)) (range_with_len 0 (length members)) (λ k h.
    let n = length members in
    let size = length-range_with_len 0 n in
    rw (get_or-range_with_len 0 n k 0 (omega arith), get_or-range_with_len 0 n (k + 1) 0 (omega arith)) (omega arith))

pub window-increases : (members : List Bool) (width : ℕ) → IsStrictlyIncreasing (window members width)
window-increases members width k h =
    let long = length-take width (absent_numbers members) in
    rw (get_or-take width (absent_numbers members) k 0 (omega arith), get_or-take width (absent_numbers members) (k + 1) 0 (omega arith))
    (absent_numbers-increase members k (omega arith))

not-true : (b : Bool) → not b ≡ true → b ≡ false
not-true true h = sym h
not-true false h = refl

range-below : (n : ℕ) → All (λ i. i < n) (range_with_len 0 n)
range-below n k d h =
    let within : k < n = omega (arith, length-range_with_len 0 n) in
    rw (get_or-range_with_len 0 n k d within) (omega arith)

absent_numbers-absent : (members : List Bool) → All (IsAbsent members) (absent_numbers members)
absent_numbers-absent members k d h =
    let range = range_with_len 0 (length members) in
    record {
      below = All-filter (λ i. not (has members i)) (λ i. i < length members) range (range-below (length members)) k d h;
      absent = not-true (has members (get_or (absent_numbers members) k d)) (filter_passes (λ i. not (has members i)) range k d h);
    }

pub window-absent : (members : List Bool) (width : ℕ) → All (IsAbsent members) (window members width)
window-absent members width = All-take (IsAbsent members) width (absent_numbers members) (absent_numbers-absent members)

pub window-few : (members : List Bool) (width : ℕ) → length (window members width) ≤ width
window-few members width = omega (arith, length-take width (absent_numbers members))

-- what passes stays
filter-here : (b : Bool) (x : ℕ) (xs : List ℕ) → b ≡ true → Contains (cond b (x ∷ xs) xs) x
filter-here true x xs h = (0, omega arith, refl)
filter-here false x xs h = cc

filter-later : (b : Bool) (x y : ℕ) (ys : List ℕ) → Contains ys x → Contains (cond b (y ∷ ys) ys) x
filter-later true x y ys there = (suc there.0, omega (arith, there.1), there.2)
filter-later false x y ys there = there

filter-contains : (p : ℕ → Bool) (xs : List ℕ) (k x : ℕ) → k < length xs → get_or xs k x ≡ x → p x ≡ true → Contains (filter p xs) x
filter-contains p [] k x within there pass = absurd (omega arith)
filter-contains p (y ∷ ys) zero x within there pass =
    subst (λ (z : ℕ). Contains (cond (p z) (z ∷ filter p ys) (filter p ys)) x) (sym there) (filter-here (p x) x (filter p ys) pass)
filter-contains p (y ∷ ys) (suc k) x within there pass =
    filter-later (p y) x y (filter p ys) (filter-contains p ys k x (omega arith) there pass)

absent_numbers-all : (members : List Bool) (number : ℕ) → IsAbsent members number → Contains (absent_numbers members) number
absent_numbers-all members number a =
    let n = length members in
    let there : get_or (range_with_len 0 n) number number ≡ number = get_or-range_with_len 0 n number number a.below ∙ omega arith in
    let within : number < length (range_with_len 0 n) = omega (arith, length-range_with_len 0 n, a.below) in
    filter-contains (λ i. not (has members i)) (range_with_len 0 n) number number within there (ap not a.absent)

-- if an absent number stands outside, the window is full, and all in it is below
pub window-lowest : (members : List Bool) (width number : ℕ) → IsAbsent members number → ¬ Contains (window members width) number
    → (length (window members width) ≡ width) × All (λ lower. lower < number) (window members width)
window-lowest members width number a outside =
    let all = absent_numbers members in
    let there = absent_numbers-all members number a in
    let long = length-take width all in
    elim (cases_lt there.0 width) [
      | inl inside ↦ absurd (outside (there.0, omega (arith, there.1), get_or-take width all there.0 number inside ∙ there.2))
      | inr behind ↦
          let within = there.1 in (
            omega arith,
            λ k d h.
                let less : k < there.0 = omega arith in
                let lower = AllPairs-from_increasing all (absent_numbers-increase members) k there.0 number less within in
                rw (get_or-take width all k d (omega arith), get_or_default all k d number (omega arith))
                (subst (λ (m : ℕ). get_or all k number < m) there.2 lower),
          )
    ]
