-- What one more number makes of runs: a run of its own, or a longer one, or one in place of the two that it joins.
use Rattle.std.proofs.Common.{◌≡◌, ◌≢◌, ℕ, ◌+◌, ◌-◌, ◌<◌, ◌≤◌, eqb, Bool, true, false, ◌||◌, List, [], ◌∷◌, ◌++◌, Some, length, get_or, set, take, drop, refl, sym, ap, subst, ◌∙◌, inl, inr, arith}
use Rattle.std.proofs.lemmas.Bool.{cases_eq, eq-eqb, ne_eqb}
use Rattle.std.proofs.lemmas.Bool.Decides.{nat_tests}
use Rattle.std.proofs.lemmas.List.{ext_get_or, length-set, length-take-le, length-drop, get_or-set_same, get_or-set_other, get_or-drop, set_at, drop_all, take-append-drop, drop_more}
use Rattle.std.proofs.lemmas.List.Edits.{remove-append_right}
use Rattle.std.proofs.lemmas.List.Folds.{list_any-append, list_any_at}
use Rattle.std.proofs.lemmas.List.Edits.{length-insert}
use Rattle.std.proofs.lemmas.Option.{slice_get_within, get_or_from_slice_get}
use Rattle.std.specs.List.{AllWithin, slice_get, insert, remove}
use Rattle.fw_blocks.specs.Private.{set_of, IsKept, Puts}
use Rattle.fw_blocks.specs.Runs.{is_of, is_in_any, AreParted}
use Rattle.fw_blocks.specs.declared.runs.Run.{Run}
use Rattle.fw_blocks.proofs.RunLemmas.{Parted, AllEndBelow, parted_from, parted_into, parted_put, parted_behind, parted_front, parted_past, split_front, front_below, is_of_run, few_runs, length-set_of, has-set_of}

-- so the set has that number too
pub set_of-puts : (count n : ℕ) (old new : List Run) → AreParted count old → n < count → Puts n old new
    → set_of count new ≡ set (set_of count old) n true
set_of-puts count n old new apart below puts =
    let apart' = puts.apart count below apart in
    let size = length-set_of count old in
    let size' = length-set_of count new in
    ext_get_or false (set_of count new) (set (set_of count old) n true) (omega (arith, length-set (set_of count old) n true)) (λ i h.
    has-set_of count new apart' i ∙ puts.numbers i
    ∙ elim (cases_eq i n) [
      | inl here ↦
          rw (eq-eqb i n here) (sym (ap (λ (k : ℕ). get_or (set (set_of count old) n true) k false) here
          ∙ get_or-set_same (set_of count old) n true false (omega arith)))
      | inr other ↦
          rw (ne_eqb i n other) (sym (get_or-set_other (set_of count old) n i true false other ∙ has-set_of count old apart i))
    ])

-- the same below one count
pub record PutsBelow (count n : ℕ) (old new : List Run) : Type 0 where
  pub numbers : (i : ℕ) → is_in_any new i ≡ (eqb i n || is_in_any old i)
  pub apart : AreParted count new

pub below_all : (n : ℕ) (old new : List Run) → (count : ℕ) × (n < count) × AreParted count old
    → ((count : ℕ) → n < count → AreParted count old → PutsBelow count n old new) → Puts n old new
below_all n old new some puts = record {
  numbers = (puts some.0 some.1 some.2).numbers;
  apart = λ count below apart. (puts count below apart).apart;
}

abbrev pub LieApart : ℕ → List Run → Type 0
LieApart n xs = (count : ℕ) × (n < count) × AreParted count xs

-- ---- what numbers there are

or_swap : (a b e : Bool) → (a || (e || b)) ≡ (e || (a || b))
or_swap true b true = refl
or_swap true b false = refl
or_swap false b e = refl

or_same : (a b c e : Bool) → a ≡ (e || b) → (a || c) ≡ (e || (b || c))
or_same a b c true h = ap (λ (x : Bool). x || c) h
or_same a b c false h = ap (λ (x : Bool). x || c) h

numbers_put : (n : ℕ) (front old : List Run) (r : Run) (rest : List Run)
    → ((i : ℕ) → (is_of i r || is_in_any rest i) ≡ (eqb i n || is_in_any old i))
    → (i : ℕ) → is_in_any (front ++ r ∷ rest) i ≡ (eqb i n || is_in_any (front ++ old) i)
numbers_put n front old r rest same i =
    list_any-append (is_of i) front (r ∷ rest) ∙ ap (λ (b : Bool). is_in_any front i || b) (same i)
    ∙ or_swap (is_in_any front i) (is_in_any old i) (eqb i n) ∙ ap (λ (b : Bool). eqb i n || b) (sym (list_any-append (is_of i) front old))

run_of : ℕ → ℕ → Run
run_of start end = record { start = start; end = end }

-- ---- a run of its own

is_of_alone : (i n : ℕ) → is_of i (run_of n (n + 1)) ≡ eqb i n
unfolding run_of
is_of_alone i n = grind (arith, nat_tests)

puts_alone : (count n : ℕ) (front behind : List Run) → AreParted count (front ++ behind) → n < count → AllEndBelow n front
    → Parted (n + 1 + 1) (count + 1) behind → PutsBelow count n (front ++ behind) (front ++ run_of n (n + 1) ∷ behind)
unfolding run_of
puts_alone count n front behind apart below ends later = record {
  numbers = numbers_put n front behind (run_of n (n + 1)) behind (λ i. ap (λ (b : Bool). b || is_in_any behind i) (is_of_alone i n));
  apart = parted_into count (front ++ run_of n (n + 1) ∷ behind)
      (parted_put 0 (count + 1) front behind (run_of n (n + 1)) behind (parted_from count (front ++ behind) apart) (omega arith) ends (omega arith) later);
}

pub put_alone_at_end : (count n : ℕ) (xs : List Run) (at : ℕ) → AreParted count xs → n < count → at ≡ length xs
    → AllWithin (λ run. run.end < n) xs 0 at → PutsBelow count n xs (insert xs at (record { start = n; end = n + 1 }))
unfolding run_of
put_alone_at_end count n xs at apart below end before =
    let all : take at xs ++ drop at xs ≡ xs = take-append-drop at xs in
    let none : drop at xs ≡ [] = drop_all at xs (omega arith) in
    let later : Parted (n + 1 + 1) (count + 1) (drop at xs) = rw none (omega arith) in
    subst (λ (old : List Run). PutsBelow count n old (insert xs at (run_of n (n + 1)))) all
    (puts_alone count n (take at xs) (drop at xs) (subst (AreParted count) (sym all) apart) below (front_below xs at n (omega arith) before) later)

pub put_alone_before : (count n : ℕ) (xs : List Run) (at : ℕ) (r : Run) → AreParted count xs → n < count → slice_get xs at ≡ Some r
    → AllWithin (λ run. run.end < n) xs 0 at → n + 1 < r.start → PutsBelow count n xs (insert xs at (record { start = n; end = n + 1 }))
unfolding run_of
put_alone_before count n xs at r apart below there before gap =
    let within = slice_get_within xs at r there in
    let here = get_or_from_slice_get xs at r r there in
    let all : take at xs ++ drop at xs ≡ xs = take-append-drop at xs in
    let split = split_front xs at r there in
    let next : drop at xs ≡ r ∷ drop (at + 1) xs = drop_more xs at r within ∙ ap (λ (y : Run). y ∷ drop (at + 1) xs) here in
    let behind = parted_behind 0 (count + 1) (take at xs) r (drop (at + 1) xs) (parted_from count _ (subst (AreParted count) split apart)) in
    let later : Parted (n + 1 + 1) (count + 1) (drop at xs) = rw next (omega (arith, gap), behind.0, behind.1) in
    subst (λ (old : List Run). PutsBelow count n old (insert xs at (run_of n (n + 1)))) all
    (puts_alone count n (take at xs) (drop at xs) (subst (AreParted count) (sym all) apart) below (front_below xs at n (omega arith) before) later)

-- ---- a number that is there already

pub put_again : (count n : ℕ) (xs : List Run) → AreParted count xs → is_in_any xs n ≡ true → PutsBelow count n xs xs
put_again count n xs apart there = record {
  numbers = λ i. elim (cases_eq i n) [
    | inl here ↦ rw (eq-eqb i n here) (ap (is_in_any xs) here ∙ there)
    | inr other ↦ rw (ne_eqb i n other) refl
  ];
  apart = apart;
}

-- ---- a longer run

-- the run r in place of that at a place, and of some after it
puts_run : (count n : ℕ) (front old : List Run) (r : Run) (rest : List Run) → AreParted count (front ++ old) → AllEndBelow r.start front → r.start < r.end
    → Parted (r.end + 1) (count + 1) rest → ((i : ℕ) → (is_of i r || is_in_any rest i) ≡ (eqb i n || is_in_any old i))
    → PutsBelow count n (front ++ old) (front ++ r ∷ rest)
puts_run count n front old r rest apart ends some behind same = record {
  numbers = numbers_put n front old r rest same;
  apart = parted_into count (front ++ r ∷ rest) (parted_put 0 (count + 1) front old r rest (parted_from count (front ++ old) apart) (omega arith) ends some behind);
}

is_of_longer : (i n : ℕ) (r : Run) → r.start < r.end → r.end ≡ n → is_of i (run_of r.start (n + 1)) ≡ (eqb i n || is_of i r)
unfolding run_of
is_of_longer i n r some end = grind (arith, nat_tests)

pub put_behind : (count n : ℕ) (xs : List Run) (at : ℕ) (r : Run) → AreParted count xs → n < count → slice_get xs at ≡ Some r → r.end ≡ n
    → (at + 1 < length xs → (d : Run) → (get_or xs (at + 1) d).start ≢ n + 1) → PutsBelow count n xs (set xs at (record { start = r.start; end = n + 1 }))
unfolding run_of
put_behind count n xs at r apart below there end gap =
    let within = slice_get_within xs at r there in
    let split = split_front xs at r there in
    let rest = drop (at + 1) xs in
    let apart' : AreParted count (take at xs ++ r ∷ rest) = subst (AreParted count) split apart in
    let p = parted_from count (take at xs ++ r ∷ rest) apart' in
    let behind = parted_behind 0 (count + 1) (take at xs) r rest p in
    let later : Parted (n + 1) (count + 1) rest = subst (λ (k : ℕ). Parted (k + 1) (count + 1) rest) end behind.1 in
    let past : Parted (n + 1 + 1) (count + 1) rest = parted_past (n + 1) (count + 1) rest later (omega arith) (λ d some starts.
    let there : get_or rest 0 d ≡ get_or xs (at + 1) d = get_or-drop (at + 1) xs 0 d ∙ ap (λ (k : ℕ). get_or xs k d) (omega arith) in
    gap (omega (arith, length-drop (at + 1) xs)) d (sym (ap (λ (y : Run). y.start) there) ∙ starts)) in
    let new : set xs at (run_of r.start (n + 1)) ≡ take at xs ++ run_of r.start (n + 1) ∷ rest =
    ap (λ (l : List Run). set l at (run_of r.start (n + 1))) split ∙ set_at (take at xs) r rest (run_of r.start (n + 1)) at (length-take-le at xs (omega arith)) in
    subst (λ (old : List Run). PutsBelow count n old (set xs at (run_of r.start (n + 1)))) (sym split)
    (subst (PutsBelow count n (take at xs ++ r ∷ rest)) (sym new)
    (puts_run count n (take at xs) (r ∷ rest) (run_of r.start (n + 1)) rest apart' (parted_front 0 (count + 1) (take at xs) r rest p) (omega (arith, behind.0, end)) past
    (λ i. or_same (is_of i (run_of r.start (n + 1))) (is_of i r) (is_in_any rest i) (eqb i n) (is_of_longer i n r behind.0 end))))

is_of_before : (i n : ℕ) (r : Run) → r.start < r.end → n + 1 ≡ r.start → is_of i (run_of n r.end) ≡ (eqb i n || is_of i r)
unfolding run_of
is_of_before i n r some begins = grind (arith, nat_tests)

pub put_before : (count n : ℕ) (xs : List Run) (at : ℕ) (r : Run) → AreParted count xs → slice_get xs at ≡ Some r
    → AllWithin (λ run. run.end < n) xs 0 at → n + 1 ≡ r.start → PutsBelow count n xs (set xs at (record { start = n; end = r.end }))
unfolding run_of
put_before count n xs at r apart there before begins =
    let within = slice_get_within xs at r there in
    let split = split_front xs at r there in
    let rest = drop (at + 1) xs in
    let apart' : AreParted count (take at xs ++ r ∷ rest) = subst (AreParted count) split apart in
    let behind = parted_behind 0 (count + 1) (take at xs) r rest (parted_from count (take at xs ++ r ∷ rest) apart') in
    let new : set xs at (run_of n r.end) ≡ take at xs ++ run_of n r.end ∷ rest =
    ap (λ (l : List Run). set l at (run_of n r.end)) split ∙ set_at (take at xs) r rest (run_of n r.end) at (length-take-le at xs (omega arith)) in
    subst (λ (old : List Run). PutsBelow count n old (set xs at (run_of n r.end))) (sym split)
    (subst (PutsBelow count n (take at xs ++ r ∷ rest)) (sym new)
    (puts_run count n (take at xs) (r ∷ rest) (run_of n r.end) rest apart' (front_below xs at n (omega arith) before) (omega (arith, behind.0)) behind.1
    (λ i. or_same (is_of i (run_of n r.end)) (is_of i r) (is_in_any rest i) (eqb i n) (is_of_before i n r behind.0 begins))))

-- ---- one run in place of two

is_of_joined : (i n : ℕ) (r next : Run) → r.start < r.end → next.start < next.end → r.end ≡ n → next.start ≡ n + 1
    → is_of i (run_of r.start next.end) ≡ (eqb i n || (is_of i r || is_of i next))
unfolding run_of
is_of_joined i n r next some some' end begins = grind (arith, nat_tests)

or_assoc : (a b c : Bool) → ((a || b) || c) ≡ (a || (b || c))
or_assoc true b c = refl
or_assoc false b c = refl

pub put_between : (count n : ℕ) (xs : List Run) (at : ℕ) (r next : Run) → AreParted count xs → slice_get xs at ≡ Some r → at + 1 < length xs
    → get_or xs (at + 1) next ≡ next → r.end ≡ n → next.start ≡ n + 1
    → PutsBelow count n xs (set (remove xs (at + 1)) at (record { start = r.start; end = next.end }))
unfolding run_of
put_between count n xs at r next apart here within there end begins =
    let front = take at xs in
    let rest = drop (at + 1 + 1) xs in
    let size : length front ≡ at = length-take-le at xs (omega arith) in
    let later : drop (at + 1) xs ≡ next ∷ rest = drop_more xs (at + 1) next within ∙ ap (λ (y : Run). y ∷ rest) there in
    let split : xs ≡ front ++ r ∷ next ∷ rest = split_front xs at r here ∙ ap (λ (l : List Run). front ++ r ∷ l) later in
    let apart' : AreParted count (front ++ r ∷ next ∷ rest) = subst (AreParted count) split apart in
    let p = parted_from count (front ++ r ∷ next ∷ rest) apart' in
    let behind = parted_behind 0 (count + 1) front r (next ∷ rest) p in
    let one_less : at + 1 - at ≡ 1 = omega arith in
    let removed : remove xs (at + 1) ≡ front ++ r ∷ rest =
    ap (λ (l : List Run). remove l (at + 1)) split ∙ remove-append_right front (r ∷ next ∷ rest) at (at + 1) size (omega arith)
    ∙ ap (λ (k : ℕ). front ++ remove (r ∷ next ∷ rest) k) one_less in
    let both : Run = run_of r.start next.end in
    let new : set (remove xs (at + 1)) at both ≡ front ++ both ∷ rest = ap (λ (l : List Run). set l at both) removed ∙ set_at front r rest both at size in
    subst (λ (old : List Run). PutsBelow count n old (set (remove xs (at + 1)) at both)) (sym split)
    (subst (PutsBelow count n (front ++ r ∷ next ∷ rest)) (sym new)
    (puts_run count n front (r ∷ next ∷ rest) both rest apart' (parted_front 0 (count + 1) front r (next ∷ rest) p) (omega (arith, behind.0, behind.1.0, behind.1.1)) behind.1.2
    (λ i.
    or_same (is_of i both) (is_of i r || is_of i next) (is_in_any rest i) (eqb i n) (is_of_joined i n r next behind.0 behind.1.1 end begins)
    ∙ ap (λ (b : Bool). eqb i n || b) (or_assoc (is_of i r) (is_of i next) (is_in_any rest i)))))

-- ---- in the code's terms

pub put_there : (n : ℕ) (xs : List Run) (at : ℕ) (r : Run) → LieApart n xs → slice_get xs at ≡ Some r → r.start ≤ n → n < r.end → Puts n xs xs
put_there n xs at r some there begins ends =
    let within = slice_get_within xs at r there in
    let here = get_or_from_slice_get xs at r r there in
    let member : is_in_any xs n ≡ true = list_any_at (is_of n) xs at r within (ap (is_of n) here ∙ is_of_run n r begins ends) in
    below_all n xs xs some (λ count below apart. put_again count n xs apart member)

-- there is room for one run more
pub room_for : (count n capacity : ℕ) (xs : List Run) (at : ℕ) (r : Run) → IsKept count xs capacity → n < count → at ≤ length xs → Puts n xs (insert xs at r) → length xs < capacity
room_for count n capacity xs at r kept below within puts =
    let new = insert xs at r in
    omega (arith, kept.room, few_runs count new (parted_from count new (puts.apart count below kept.apart)), length-insert xs at r within)
