-- Receipts in the order of their numbers are those for events in one way alone.
use Rattle.std.proofs.Common.{◌≡◌, ◌⊎◌, inl, inr, Bool, false, eqb, ℕ, zero, suc, ◌+◌, ◌<◌, ◌≤◌, List, [], ◌∷◌, length, get_or, All, refl, ap, subst, ◌∙◌, arith}
use Rattle.std.proofs.lemmas.Bool.{eqb-false}
use Rattle.std.proofs.lemmas.Bool.Decides.{nat_tests}
use Rattle.std.proofs.lemmas.List.Sorted.{All-permutation, IsPermutation-sym, length_permutation}
use Rattle.std.proofs.lemmas.Map.Keys.{IsDistinct-IsPermutation, IsDistinct-from_apart, apart_from_distinct}
use Rattle.std.specs.List.{IsDistinct}
use Rattle.std.specs.List.Sorted.{IsNonDecreasingBy, IsPermutation}
use Rattle.fw_air.specs.Events.{Receipt}
use Rattle.fw_world.specs.Step.{Event}
use Rattle.fw_accounts.specs.Accounts.{numbered}
use Rattle.fw_accounts.proofs.Numbering.{receipt}

abbrev pub number_of : Receipt → ℕ
number_of r = r.number

-- ---- numbers that rise from n on

abbrev pub RisesFrom : ℕ → List Receipt → Type 0
RisesFrom n [] = Unit {0}
RisesFrom n (r ∷ rs) = (n ≤ r.number) × RisesFrom (r.number + 1) rs

lower : (m n : ℕ) (rs : List Receipt) → m ≤ n → RisesFrom n rs → RisesFrom m rs
lower m n [] le up = tt
lower m n (r ∷ rs) le up = (omega (arith, up.0), up.1)

abbrev pub same_number : Receipt → Receipt → Bool
same_number one other = eqb one.number other.number

rises_from : (rs : List Receipt) (m : ℕ) → ((d : Receipt) → 0 < length rs → m ≤ (get_or rs 0 d).number)
    → ((i j : ℕ) (d : Receipt) → i ≤ j → j < length rs → (get_or rs i d).number ≤ (get_or rs j d).number)
    → ((i j : ℕ) (d : Receipt) → i < j → j < length rs → same_number (get_or rs i d) (get_or rs j d) ≡ false)
    → RisesFrom m rs
rises_from [] m low up apart = tt
rises_from (r ∷ rs) m low up apart = (
  low r (omega arith),
  rises_from rs (r.number + 1)
      (λ d some.
      let to : r.number ≤ (get_or rs 0 d).number = up 0 1 d (omega arith) (omega arith) in
      let other : r.number ≡ (get_or rs 0 d).number → ⊥ = eqb-false r.number (get_or rs 0 d).number (apart 0 1 d (omega arith) (omega arith)) in
      omega arith)
      (λ i j d le lt. up (suc i) (suc j) d (omega arith) (omega arith))
      (λ i j d below lt. apart (suc i) (suc j) d (omega arith) (omega arith)),
)

-- ---- receipts for events

abbrev pub IsOf : ℕ → List Event → Receipt → Type 0
IsOf n [] r = ⊥
IsOf n (e ∷ es) r = (r ≡ receipt n e) ⊎ IsOf (n + 1) es r

abbrev pub AreOf : ℕ → List Event → List Receipt → Type 0
AreOf n es [] = Unit {0}
AreOf n es (r ∷ rs) = IsOf n es r × AreOf n es rs

at_least : (n : ℕ) (es : List Event) (r : Receipt) → IsOf n es r → n ≤ r.number
at_least n [] r of = absurd of
at_least n (e ∷ es) r of = elim of [
  | inl is ↦ (let at : r.number ≡ n = ap number_of is in omega arith)
  | inr later ↦ (let more = at_least (n + 1) es r later in omega arith)
]

not_first : (n : ℕ) (e : Event) (es : List Event) (r : Receipt) → n < r.number → IsOf n (e ∷ es) r → IsOf (n + 1) es r
not_first n e es r above of = elim of [
  | inl is ↦ absurd (let at : r.number ≡ n = ap number_of is in omega arith)
  | inr later ↦ later
]

none_first : (n m : ℕ) (e : Event) (es : List Event) (rs : List Receipt) → n < m → RisesFrom m rs → AreOf n (e ∷ es) rs → AreOf (n + 1) es rs
none_first n m e es [] above up of = tt
none_first n m e es (r ∷ rs) above up of = (
  not_first n e es r (omega (arith, up.0)) of.0,
  none_first n (r.number + 1) e es rs (omega (arith, up.0)) up.1 of.1,
)

first_is : (n : ℕ) (e : Event) (es : List Event) (r : Receipt) (rs : List Receipt) → rs ≡ numbered (n + 1) es → RisesFrom (r.number + 1) rs → IsOf n (e ∷ es) r
    → r ≡ receipt n e
first_is n e [] r rs rest up of = elim of [ inl is ↦ is | inr later ↦ absurd later ]
first_is n e (next ∷ es) r rs rest up of = elim of [
  | inl is ↦ is
  | inr later ↦ absurd (
      let more : RisesFrom (r.number + 1) (receipt (n + 1) next ∷ numbered (n + 1 + 1) es) = subst (RisesFrom (r.number + 1)) rest up in
      let up_to : r.number + 1 ≤ n + 1 = more.0 in
      let least = at_least (n + 1) (next ∷ es) r later in
      omega arith)
]

all_are : (n : ℕ) (es : List Event) (rs : List Receipt) → length rs ≡ length es → RisesFrom n rs → AreOf n es rs → rs ≡ numbered n es
all_are n [] [] many up of = refl
all_are n [] (r ∷ rs) many up of = absurd (omega arith)
all_are n (e ∷ es) [] many up of = absurd (omega arith)
all_are n (e ∷ es) (r ∷ rs) many up of =
    let rest : rs ≡ numbered (n + 1) es =
    all_are (n + 1) es rs (omega arith) (lower (n + 1) (r.number + 1) rs (omega (arith, up.0)) up.1) (none_first n (r.number + 1) e es rs (omega (arith, up.0)) up.1 of.1) in
    ap (λ (x : Receipt). x ∷ rs) (first_is n e es r rs rest up.1 of.0) ∙ ap (λ (l : List Receipt). receipt n e ∷ l) rest

-- ---- receipts in another order

pub length-numbered : (n : ℕ) (es : List Event) → length (numbered n es) ≡ length es
length-numbered n [] = refl
length-numbered n (e ∷ es) = let rest = length-numbered (n + 1) es in omega arith

number_at : (n : ℕ) (es : List Event) (i : ℕ) (d : Receipt) → i < length es → (get_or (numbered n es) i d).number ≡ n + i
number_at n [] i d lt = absurd (omega arith)
number_at n (e ∷ es) zero d lt = omega arith
number_at n (e ∷ es) (suc i) d lt = let rest = number_at (n + 1) es i d (omega arith) in omega arith

apart : (n : ℕ) (es : List Event) → IsDistinct same_number (numbered n es)
apart n es = IsDistinct-from_apart same_number (numbered n es) (λ i j d below lt.
    let long = length-numbered n es in
    let one = number_at n es i d (omega arith) in
    let other = number_at n es j d (omega arith) in
    let differ : eqb (get_or (numbered n es) i d).number (get_or (numbered n es) j d).number ≡ false = grind (arith, nat_tests) in
    differ)

is_of_at : (n : ℕ) (es : List Event) (i : ℕ) (d : Receipt) → i < length es → IsOf n es (get_or (numbered n es) i d)
is_of_at n [] i d lt = absurd (omega arith)
is_of_at n (e ∷ es) zero d lt = inl refl
is_of_at n (e ∷ es) (suc i) d lt = inr (is_of_at (n + 1) es i d (omega arith))

are_of : (n : ℕ) (es : List Event) (rs : List Receipt) → All (IsOf n es) rs → AreOf n es rs
are_of n es [] all = tt
are_of n es (r ∷ rs) all = (all 0 r (omega arith), are_of n es rs (λ k d lt. all (suc k) d (omega arith)))

pub in_one_way : (n : ℕ) (es : List Event) (rs : List Receipt) → IsPermutation rs (numbered n es)
    → IsNonDecreasingBy number_of rs → rs ≡ numbered n es
in_one_way n es rs same in_order =
    let back = IsPermutation-sym rs (numbered n es) same in
    let long = length-numbered n es in
    let many = length_permutation rs (numbered n es) same in
    let each : All (IsOf n es) rs = All-permutation (IsOf n es) (numbered n es) rs back (λ k d lt. is_of_at n es k d (omega arith)) in
    let distinct = IsDistinct-IsPermutation same_number (λ x y. grind (arith, nat_tests)) (numbered n es) rs back (apart n es) in
    all_are n es rs (omega arith)
    (rises_from rs n (λ d some. at_least n es (get_or rs 0 d) (each 0 d some)) in_order (λ i j d below lt. apart_from_distinct same_number rs i j d distinct below lt))
    (are_of n es rs each)
