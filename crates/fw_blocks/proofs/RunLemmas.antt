-- Runs of numbers: what they have, how many there are, and what one more number makes of them.
use Rattle.std.proofs.Common.{◌≡◌, ◌≢◌, ℕ, if◌then◌else◌, zero, suc, ◌+◌, ◌*◌, ◌/◌, ◌<◌, ◌≤◌, Bool, true, false, ◌||◌, List, [], ◌∷◌, ◌++◌, length, get_or, take, drop, replicate, eqb, Some, None, refl, sym, ap, subst, ◌∙◌, inl, inr, arith}
use Rattle.std.proofs.lemmas.Bool.{cases_lt, cases_eq, eq-eqb, ne_eqb}
use Rattle.std.proofs.lemmas.Bool.Decides.{nat_tests}
use Rattle.std.proofs.lemmas.List.{ext_get_or, get_or_past, get_or-take, length-take-le, take-append-drop, drop_more, get_or-replicate, length-replicate}
use Rattle.std.proofs.lemmas.List.Folds.{list_any-append, list_any_none}
use Rattle.std.proofs.lemmas.List.FromFn.{length-map-range_with_len, get_or-map-range_with_len}
use Rattle.std.proofs.lemmas.Option.{slice_get_within, get_or_from_slice_get}
use Rattle.std.specs.List.{AllWithin, slice_get}
use Rattle.fw_blocks.specs.Private.{set_of}
use Rattle.fw_blocks.specs.Members.{has, IsFirstMissing}
use Rattle.fw_blocks.specs.Runs.{is_of, is_in_any, AreParted, AreRuns}
use Rattle.fw_blocks.specs.declared.runs.Run.{Run}

-- the same from the first run on: each starts at a number or above it, and the next one above where it ends
abbrev pub Parted : ℕ → ℕ → List Run → Type 0
Parted low top [] = low ≤ top
Parted low top (r ∷ rs) = (low ≤ r.start) × (r.start < r.end) × Parted (r.end + 1) top rs

parted_from_low : (count low : ℕ) (rs : List Run) → low ≤ count + 1 → ((k : ℕ) (d : Run) → k < length rs → low ≤ (get_or rs k d).start)
    → AreParted count rs → Parted low (count + 1) rs
parted_from_low count low [] fits starts apart = fits
parted_from_low count low (r ∷ rs) fits starts apart =
    let ends = apart.within zero r (omega arith) in (
      starts zero r (omega arith),
      apart.some zero r (omega arith),
      parted_from_low count (r.end + 1) rs (omega arith) (λ k d h.
          let behind = apart.parted zero (suc k) d (omega arith) (omega arith) in
          omega arith) (record {
            some = λ k d h. apart.some (suc k) d (omega arith);
            within = λ k d h. apart.within (suc k) d (omega arith);
            parted = λ i j d before h. apart.parted (suc i) (suc j) d (omega arith) (omega arith);
          }),
    )

pub parted_from : (count : ℕ) (rs : List Run) → AreParted count rs → Parted 0 (count + 1) rs
parted_from count rs apart = parted_from_low count 0 rs (omega arith) (λ k d h. omega arith) apart

pub parted_low : (low top : ℕ) (rs : List Run) → Parted low top rs → low ≤ top
parted_low low top [] p = p
parted_low low top (r ∷ rs) p = omega (arith, p.0, p.1, parted_low (r.end + 1) top rs p.2)

parted_starts : (low top : ℕ) (rs : List Run) → Parted low top rs → (k : ℕ) (d : Run) → k < length rs → low ≤ (get_or rs k d).start
parted_starts low top [] p k d h = absurd (omega arith)
parted_starts low top (r ∷ rs) p zero d h = p.0
parted_starts low top (r ∷ rs) p (suc k) d h = omega (arith, p.0, p.1, parted_starts (r.end + 1) top rs p.2 k d (omega arith))

parted_some : (low top : ℕ) (rs : List Run) → Parted low top rs → (k : ℕ) (d : Run) → k < length rs → (get_or rs k d).start < (get_or rs k d).end
parted_some low top [] p k d h = absurd (omega arith)
parted_some low top (r ∷ rs) p zero d h = p.1
parted_some low top (r ∷ rs) p (suc k) d h = parted_some (r.end + 1) top rs p.2 k d (omega arith)

parted_ends : (low top : ℕ) (rs : List Run) → Parted low top rs → (k : ℕ) (d : Run) → k < length rs → (get_or rs k d).end + 1 ≤ top
parted_ends low top [] p k d h = absurd (omega arith)
parted_ends low top (r ∷ rs) p zero d h = parted_low (r.end + 1) top rs p.2
parted_ends low top (r ∷ rs) p (suc k) d h = parted_ends (r.end + 1) top rs p.2 k d (omega arith)

parted_pairs : (low top : ℕ) (rs : List Run) → Parted low top rs → (i j : ℕ) (d : Run) → i < j → j < length rs
    → (get_or rs i d).end < (get_or rs j d).start
parted_pairs low top [] p i j d before h = absurd (omega arith)
parted_pairs low top (r ∷ rs) p zero zero d before h = absurd (omega arith)
parted_pairs low top (r ∷ rs) p zero (suc j) d before h = omega (arith, parted_starts (r.end + 1) top rs p.2 j d (omega arith))
parted_pairs low top (r ∷ rs) p (suc i) zero d before h = absurd (omega arith)
parted_pairs low top (r ∷ rs) p (suc i) (suc j) d before h = parted_pairs (r.end + 1) top rs p.2 i j d (omega arith) (omega arith)

pub parted_into : (count : ℕ) (rs : List Run) → Parted 0 (count + 1) rs → AreParted count rs
parted_into count rs p = record {
  some = parted_some 0 (count + 1) rs p;
  within = λ k d h. omega (arith, parted_ends 0 (count + 1) rs p k d h);
  parted = parted_pairs 0 (count + 1) rs p;
}

-- with a number between each two, they are half as many as the numbers
parted_few : (low top : ℕ) (rs : List Run) → Parted low top rs → 2 * length rs + low ≤ top
parted_few low top [] p = omega (arith, p)
parted_few low top (r ∷ rs) p = omega (arith, p.0, p.1, parted_few (r.end + 1) top rs p.2)

pub few_runs : (count : ℕ) (rs : List Run) → Parted 0 (count + 1) rs → length rs ≤ (count + 1) / 2
few_runs count rs p = omega (arith, parted_few 0 (count + 1) rs p)

-- ---- the runs before one, and those after it

abbrev pub AllEndBelow : ℕ → List Run → Type 0
AllEndBelow n rs = (k : ℕ) (d : Run) → k < length rs → (get_or rs k d).end < n

pub parted_behind : (low top : ℕ) (front : List Run) (r : Run) (rest : List Run) → Parted low top (front ++ r ∷ rest)
    → (r.start < r.end) × Parted (r.end + 1) top rest
parted_behind low top [] r rest p = (p.1, p.2)
parted_behind low top (f ∷ fs) r rest p = parted_behind (f.end + 1) top fs r rest p.2

parted_reach : (low top : ℕ) (front : List Run) (r : Run) (rest : List Run) → Parted low top (front ++ r ∷ rest) → low ≤ r.start
parted_reach low top [] r rest p = p.0
parted_reach low top (f ∷ fs) r rest p = omega (arith, p.0, p.1, parted_reach (f.end + 1) top fs r rest p.2)

-- one run in place of those from there on
pub parted_put : (low top : ℕ) (front old : List Run) (r : Run) (rest : List Run) → Parted low top (front ++ old) → low ≤ r.start
    → AllEndBelow r.start front → r.start < r.end → Parted (r.end + 1) top rest → Parted low top (front ++ r ∷ rest)
parted_put low top [] old r rest p begins below some behind = (begins, some, behind)
parted_put low top (f ∷ fs) old r rest p begins below some behind = (
  p.0,
  p.1,
  parted_put (f.end + 1) top fs old r rest p.2 (omega (arith, below zero f (omega arith))) (λ k d h. below (suc k) d (omega arith)) some behind,
)

-- if none starts at it, one further on
pub parted_past : (low top : ℕ) (rs : List Run) → Parted low top rs → low + 1 ≤ top → ((d : Run) → 0 < length rs → (get_or rs 0 d).start ≢ low)
    → Parted (low + 1) top rs
parted_past low top [] p room gap = room
parted_past low top (r ∷ rs) p room gap =
    let other = gap r (omega arith) in
    (omega (arith, p.0, other), p.1, p.2)

pub parted_front : (low top : ℕ) (front : List Run) (r : Run) (rest : List Run) → Parted low top (front ++ r ∷ rest) → AllEndBelow r.start front
parted_front low top [] r rest p k d h = absurd (omega arith)
parted_front low top (f ∷ fs) r rest p zero d h = omega (arith, parted_reach (f.end + 1) top fs r rest p.2)
parted_front low top (f ∷ fs) r rest p (suc k) d h = parted_front (f.end + 1) top fs r rest p.2 k d (omega arith)

pub parted_less : (low less top : ℕ) (rs : List Run) → Parted low top rs → less ≤ low → Parted less top rs
parted_less low less top [] p h = omega (arith, p)
parted_less low less top (r ∷ rs) p h = (omega (arith, p.0), p.1, p.2)

-- ---- what numbers runs have

pub not_of : (i : ℕ) (r : Run) → r.end ≤ i → is_of i r ≡ false
not_of i r h = grind (arith, nat_tests)

pub none_before : (i : ℕ) (rs : List Run) → ((k : ℕ) (d : Run) → k < length rs → (get_or rs k d).end ≤ i) → is_in_any rs i ≡ false
none_before i rs below = list_any_none (is_of i) rs (λ k d h. not_of i (get_or rs k d) (below k d h))

before_start : (i : ℕ) (r : Run) → i < r.start → is_of i r ≡ false
before_start i r h = grind (arith, nat_tests)

pub none_behind : (i low top : ℕ) (rs : List Run) → Parted low top rs → i < low → is_in_any rs i ≡ false
none_behind i low top rs p h = list_any_none (is_of i) rs (λ k d k_in. before_start i (get_or rs k d) (omega (arith, parted_starts low top rs p k d k_in)))

or_none : (b : Bool) → (b || false) ≡ b
or_none true = refl
or_none false = refl

-- a number that the runs before it end below, and the next one doesn't
pub of_the_next : (i low top : ℕ) (front : List Run) (r : Run) (rest : List Run) → Parted low top (front ++ r ∷ rest) → AllEndBelow i front → i ≤ r.end
    → is_in_any (front ++ r ∷ rest) i ≡ is_of i r
of_the_next i low top front r rest p below h =
    let before = none_before i front (λ k d k_in. omega (arith, below k d k_in)) in
    let behind = none_behind i (r.end + 1) top rest (parted_behind low top front r rest p).1 (omega arith) in
    list_any-append (is_of i) front (r ∷ rest) ∙ rw (before, behind) (or_none (is_of i r))

pub is_of_run : (i : ℕ) (r : Run) → r.start ≤ i → i < r.end → is_of i r ≡ true
is_of_run i r begins ends = grind (arith, nat_tests)

-- ---- the set that runs are

pub length-set_of : (count : ℕ) (rs : List Run) → length (set_of count rs) ≡ count
length-set_of count rs = length-map-range_with_len (is_in_any rs) 0 count

pub has-set_of : (count : ℕ) (rs : List Run) → AreParted count rs → (i : ℕ) → has (set_of count rs) i ≡ is_in_any rs i
has-set_of count rs apart i =
    elim (cases_lt i count) [
      | inl below ↦ get_or-map-range_with_len (is_in_any rs) 0 count i i false below (omega arith)
      | inr past ↦
          get_or_past (set_of count rs) i false (omega (arith, length-set_of count rs))
          ∙ sym (none_before i rs (λ k d h. omega (arith, apart.within k d h)))
    ]

pub are_runs : (count : ℕ) (rs : List Run) → AreParted count rs → AreRuns (set_of count rs) rs
are_runs count rs apart = record {
  numbers = has-set_of count rs apart;
  apart = subst (λ (n : ℕ). AreParted n rs) (sym (length-set_of count rs)) apart;
}

pub set_of-none : (count : ℕ) → set_of count [] ≡ replicate count false
set_of-none count =
    let size = length-set_of count [] in
    ext_get_or false (set_of count []) (replicate count false) (omega (arith, length-replicate count false)) (λ i h.
    get_or-map-range_with_len (is_in_any []) 0 count i i false (omega arith) (omega arith)
    ∙ sym (get_or-replicate count i false false (omega arith)))

pub none_parted : (count : ℕ) → AreParted count []
none_parted count = parted_into count [] (omega arith)

-- ---- the least absent number

pub first_run_first : (count : ℕ) (r : Run) (rest : List Run) → AreParted count (r ∷ rest) → r.start ≡ 0 → IsFirstMissing (set_of count (r ∷ rest)) r.end
first_run_first count r rest apart begins =
    let p = parted_from count (r ∷ rest) apart in
    let size = length-set_of count (r ∷ rest) in
    record {
      within = omega (arith, apart.within zero r (omega arith));
      all_before = λ i h. has-set_of count (r ∷ rest) apart i ∙ rw (is_of_run i r (omega arith) h) refl;
      absent = λ h. record {
        below = h;
        absent = has-set_of count (r ∷ rest) apart r.end ∙ rw (not_of r.end r (omega arith)) (none_behind r.end (r.end + 1) (count + 1) rest p.2 (omega arith));
      };
    }

pub gap_first : (count : ℕ) (rs : List Run) → AreParted count rs → ((d : Run) → 0 < length rs → (get_or rs 0 d).start ≢ 0) → IsFirstMissing (set_of count rs) 0
gap_first count [] apart gap = record {
  within = omega arith;
  all_before = λ i h. absurd (omega arith);
  absent = λ h. record { below = h; absent = has-set_of count [] apart 0 };
}
gap_first count (r ∷ rest) apart gap =
    let p = parted_from count (r ∷ rest) apart in
    let later : 1 ≤ r.start = omega (arith, gap r (omega arith)) in
    record {
      within = omega arith;
      all_before = λ i h. absurd (omega arith);
      absent = λ h. record {
        below = h;
        absent = has-set_of count (r ∷ rest) apart 0 ∙ none_behind 0 1 (count + 1) (r ∷ rest) (later, p.1, p.2) (omega arith);
      };
    }

-- ---- the run at a place

pub slice_get_none : (xs : List Run) (i : ℕ) → slice_get xs i ≡ None → length xs ≤ i
slice_get_none [] i none = omega arith
slice_get_none (x ∷ xs) zero none = cc
slice_get_none (x ∷ xs) (suc i) none = omega (arith, slice_get_none xs i none)

pub first_at : (count : ℕ) (rs : List Run) (r : Run) → AreParted count rs → slice_get rs 0 ≡ Some r → IsFirstMissing (set_of count rs) (if eqb r.start 0 then r.end else 0)
first_at count [] r apart there = cc
first_at count (f ∷ rest) r apart there =
    let same : f ≡ r = cc in
    elim (cases_eq r.start 0) [
      | inl begins ↦ rw (eq-eqb r.start 0 begins) (subst (λ (x : Run). IsFirstMissing (set_of count (f ∷ rest)) x.end) same (first_run_first count f rest apart (rw same begins)))
      | inr later ↦ rw (ne_eqb r.start 0 later) (gap_first count (f ∷ rest) apart (λ d some. rw same later))
    ]

pub none_at : (count : ℕ) (rs : List Run) → AreParted count rs → slice_get rs 0 ≡ None → IsFirstMissing (set_of count rs) 0
none_at count rs apart there =
    let none = slice_get_none rs 0 there in
    gap_first count rs apart (λ d some starts. omega arith)

pub split_front : (xs : List Run) (at : ℕ) (r : Run) → slice_get xs at ≡ Some r → xs ≡ take at xs ++ r ∷ drop (at + 1) xs
split_front xs at r there =
    let within = slice_get_within xs at r there in
    let here = get_or_from_slice_get xs at r r there in
    sym (take-append-drop at xs) ∙ ap (λ (rest : List Run). take at xs ++ rest) (drop_more xs at r within ∙ ap (λ (y : Run). y ∷ drop (at + 1) xs) here)

pub front_below : (xs : List Run) (at n : ℕ) → at ≤ length xs → AllWithin (λ run. run.end < n) xs 0 at → AllEndBelow n (take at xs)
front_below xs at n within before k d h =
    let size = length-take-le at xs within in
    let inside : k < at = omega arith in
    rw (get_or-take at xs k d inside) (before k d (omega arith) inside)

pub has_at : (count : ℕ) (rs : List Run) (at : ℕ) (r : Run) (n : ℕ) → AreParted count rs → slice_get rs at ≡ Some r → AllWithin (λ run. run.end < n) rs 0 at
    → AllWithin (λ run. n ≤ run.end) rs at (length rs) → has (set_of count rs) n ≡ is_of n r
has_at count rs at r n apart there before behind =
    let within = slice_get_within rs at r there in
    let split = split_front rs at r there in
    let here = get_or_from_slice_get rs at r r there in
    let ends : n ≤ r.end = subst (λ (x : Run). n ≤ x.end) here (behind at r (omega arith) within) in
    has-set_of count rs apart n ∙ ap (λ (xs : List Run). is_in_any xs n) split
    ∙ of_the_next n 0 (count + 1) (take at rs) r (drop (at + 1) rs) (subst (Parted 0 (count + 1)) split (parted_from count rs apart)) (front_below rs at n (omega arith) before) ends

pub has_past : (count : ℕ) (rs : List Run) (at n : ℕ) → AreParted count rs → slice_get rs at ≡ None → AllWithin (λ run. run.end < n) rs 0 at
    → has (set_of count rs) n ≡ false
has_past count rs at n apart there before =
    let past = slice_get_none rs at there in
    has-set_of count rs apart n ∙ none_before n rs (λ k d h. omega (arith, before k d (omega arith) (omega arith)))
