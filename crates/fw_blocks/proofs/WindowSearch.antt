-- The search for the lowest absent numbers, run by run.
use Rattle.std.proofs.Common.{◌≡◌, ℕ, zero, suc, ◌+◌, ◌-◌, ◌<◌, ◌≤◌, Bool, true, false, not, ◌||◌, cond, List, [], ◌∷◌, ◌++◌, length, set, take, replicate, sym, ap, subst, ◌∙◌, arith, append_assoc, append-nil}
use Rattle.std.proofs.lemmas.List.{length-append, length-take, set_at, take_at, take_all, take-append-le}
use Rattle.std.proofs.lemmas.List.Elements.{filter-append}
use Rattle.std.specs.List.{filter, range_with_len}
use Rattle.fw_blocks.specs.Private.{HoldsFew, Lists}
use Rattle.fw_blocks.specs.Members.{has, absent_numbers, window}
use Rattle.fw_blocks.specs.Runs.{is_in_any, AreRuns}
use Rattle.fw_blocks.specs.Width.{max_width}
use Rattle.fw_blocks.specs.declared.runs.Run.{Run}
use Rattle.fw_blocks.proofs.CutLemmas.{range_more}
use Rattle.fw_blocks.proofs.RunLemmas.{Parted, parted_from, parted_low, parted_less, none_behind, is_of_run, not_of}

-- the absent numbers below a number
abbrev pub absent_below : List Bool → ℕ → List ℕ
absent_below members n = filter (λ i. not (has members i)) (range_with_len 0 n)

absent_below-more : (members : List Bool) (n : ℕ)
    → absent_below members (suc n) ≡ absent_below members n ++ cond (not (has members n)) (n ∷ []) []
absent_below-more members n =
    let last : 0 + n ≡ n = omega arith in
    ap (filter (λ i. not (has members i))) (range_more 0 n ∙ ap (λ (k : ℕ). range_with_len 0 n ++ k ∷ []) last)
    ∙ filter-append (λ i. not (has members i)) (range_with_len 0 n) (n ∷ [])

absent_below-member : (members : List Bool) (n : ℕ) → has members n ≡ true → absent_below members (suc n) ≡ absent_below members n
absent_below-member members n member =
    absent_below-more members n
    ∙ ap (λ (b : Bool). absent_below members n ++ cond (not b) (n ∷ []) []) member
    ∙ append-nil (absent_below members n)

absent_below-absent : (members : List Bool) (n : ℕ) → has members n ≡ false
    → absent_below members (suc n) ≡ absent_below members n ++ n ∷ []
absent_below-absent members n absent =
    absent_below-more members n ∙ ap (λ (b : Bool). absent_below members n ++ cond (not b) (n ∷ []) []) absent

-- past numbers that are all members they are the same, and past absent ones they have these too

absent_below-run : (members : List Bool) (n more : ℕ) → ((i : ℕ) → n ≤ i → i < n + more → has members i ≡ true)
    → absent_below members (n + more) ≡ absent_below members n
absent_below-run members n zero all = ap (absent_below members) (omega arith)
absent_below-run members n (suc more) all =
    let next : n + suc more ≡ suc (n + more) = omega arith in
    ap (absent_below members) next ∙ absent_below-member members (n + more) (all (n + more) (omega arith) (omega arith))
    ∙ absent_below-run members n more (λ i from to. all i from (omega arith))

absent_below-gap : (members : List Bool) (n more : ℕ) → ((i : ℕ) → n ≤ i → i < n + more → has members i ≡ false)
    → absent_below members (n + more) ≡ absent_below members n ++ range_with_len n more
absent_below-gap members n zero none =
    let here : n + zero ≡ n = omega arith in
    ap (absent_below members) here ∙ sym (append-nil (absent_below members n))
absent_below-gap members n (suc more) none =
    let next : n + suc more ≡ suc (n + more) = omega arith in
    ap (absent_below members) next ∙ absent_below-absent members (n + more) (none (n + more) (omega arith) (omega arith))
    ∙ ap (λ (xs : List ℕ). xs ++ (n + more) ∷ []) (absent_below-gap members n more (λ i from to. none i from (omega arith)))
    ∙ append_assoc (absent_below members n) (range_with_len n more) ((n + more) ∷ [])
    ∙ ap (λ (xs : List ℕ). absent_below members n ++ xs) (sym (range_more n more))

-- after the absent numbers below a number stand those above it
absent_below-add : (members : List Bool) (n more : ℕ) → (rest : List ℕ) × (absent_below members (n + more) ≡ absent_below members n ++ rest)
absent_below-add members n zero =
    let none : n + zero ≡ n = omega arith in
    ([], ap (absent_below members) none ∙ sym (append-nil (absent_below members n)))
absent_below-add members n (suc more) =
    let before = absent_below-add members n more in
    let next : n + suc more ≡ suc (n + more) = omega arith in
    let last = cond (not (has members (n + more))) ((n + more) ∷ []) [] in (
      before.0 ++ last,
      ap (absent_below members) next ∙ absent_below-more members (n + more) ∙ ap (λ (xs : List ℕ). xs ++ last) before.1
          ∙ append_assoc (absent_below members n) before.0 last,
    )

-- ---- numbers in their places

module _ {all : List ℕ} {width : ℕ} {places : List ℕ} {len : ℕ} (f : Lists all width places len) where
  pub lists_window : HoldsFew places len
  lists_window =
      let front : take len places ≡ take width all = ap (take len) f.holds ∙ take_at (take width all) (replicate (max_width - len) 0) len f.count in
      record { count = ap length front ∙ f.count; rest = f.holds ∙ ap (λ (xs : List ℕ). xs ++ replicate (max_width - len) 0) (sym front) }

  pub lists_front : take len places ≡ take width all
  lists_front = ap (take len) f.holds ∙ take_at (take width all) (replicate (max_width - len) 0) len f.count

  -- one number more
  pub lists_more : (n : ℕ) → len < width → width ≤ max_width → Lists (all ++ n ∷ []) width (set places len n) (len + 1)
  lists_more n room fits =
      let size : length all ≡ len = omega (arith, length-take width all, f.count) in
      let whole : take width all ≡ all = take_all width all (omega arith) in
      let longer = length-append all (n ∷ []) in
      let whole' : take width (all ++ n ∷ []) ≡ all ++ n ∷ [] = take_all width (all ++ n ∷ []) (omega arith) in
      let one_less : max_width - len ≡ suc (max_width - (len + 1)) = omega arith in
      let zeros : List ℕ = replicate (max_width - (len + 1)) 0 in
      let written : set places len n ≡ all ++ n ∷ zeros =
      ap (λ (xs : List ℕ). set xs len n) (f.holds ∙ ap (λ (xs : List ℕ). xs ++ replicate (max_width - len) 0) whole ∙ ap (λ (k : ℕ). all ++ replicate k 0) one_less)
      ∙ set_at all 0 zeros n len size in
      record {
        holds = written ∙ sym (append_assoc all (n ∷ []) zeros) ∙ ap (λ (xs : List ℕ). xs ++ zeros) (sym whole');
        count = ap length whole' ∙ omega (arith, longer, size);
      }

  -- if there are as many as the width, no more come in
  pub lists_full : len ≡ width → (more : List ℕ) → Lists (all ++ more) width places len
  lists_full full more =
      let long : width ≤ length all = omega (arith, length-take width all, f.count) in
      let same : take width (all ++ more) ≡ take width all = take-append-le width all more long in
      record { holds = f.holds ∙ ap (λ (xs : List ℕ). xs ++ replicate (max_width - len) 0) (sym same); count = ap length same ∙ f.count }

-- ---- the numbers of a gap, one by one

pub record Listing (numbers : List ℕ) (listed width from to number : ℕ) (places : List ℕ) (len : ℕ) : Type 0 where
  pub within : number - from ≤ to - from
  pub most : len ≤ width
  pub lists : (before : List ℕ) → Lists before width numbers listed → Lists (before ++ range_with_len from (number - from)) width places len

pub listing_none : (numbers : List ℕ) (listed width from to : ℕ) → listed ≤ width → Listing numbers listed width from to from numbers listed
listing_none numbers listed width from to few = record {
  within = omega arith;
  most = few;
  lists = λ before l.
      let none : 0 ≡ from - from = omega arith in
      subst (λ (k : ℕ). Lists (before ++ range_with_len from k) width numbers listed) none
      (subst (λ (all : List ℕ). Lists all width numbers listed) (sym (append-nil before)) l);
}

range_add : (from n m : ℕ) → range_with_len from (n + m) ≡ range_with_len from n ++ range_with_len (from + n) m
range_add from zero m =
    let here : from ≡ from + zero = omega arith in
    let all : zero + m ≡ m = omega arith in
    ap (range_with_len from) all ∙ ap (λ (k : ℕ). range_with_len k m) here
range_add from (suc n) m =
    let next : suc n + m ≡ suc (n + m) = omega arith in
    let later : from + 1 + n ≡ from + suc n = omega arith in
    ap (range_with_len from) next ∙ ap (λ (xs : List ℕ). from ∷ xs) (range_add (from + 1) n m ∙ ap (λ (k : ℕ). range_with_len (from + 1) n ++ range_with_len k m) later)

module _ {numbers : List ℕ} {listed width from to number : ℕ} {places : List ℕ} {len : ℕ} (f : Listing numbers listed width from to number places len) where
  pub listing_more : from ≤ number → number < to → len < width → width ≤ max_width → Listing numbers listed width from to (number + 1) (set places len number) (len + 1)
  listing_more reached left room fits = record {
    within = omega arith;
    most = omega arith;
    lists = λ before l.
        let before' = before ++ range_with_len from (number - from) in
        let one : number + 1 - from ≡ suc (number - from) = omega arith in
        let here : from + (number - from) ≡ number = omega arith in
        let all : before' ++ number ∷ [] ≡ before ++ range_with_len from (number + 1 - from) =
        append_assoc before (range_with_len from (number - from)) (number ∷ [])
        ∙ ap (λ (xs : List ℕ). before ++ xs) (ap (λ (k : ℕ). range_with_len from (number - from) ++ k ∷ []) (sym here) ∙ sym (range_more from (number - from))
        ∙ ap (range_with_len from) (sym one)) in
        subst (λ (xs : List ℕ). Lists xs width (set places len number) (len + 1)) all (lists_more (f.lists before l) number room fits);
  }

  pub listing_all : to ≤ number → (before : List ℕ) → Lists before width numbers listed → Lists (before ++ range_with_len from (to - from)) width places len
  listing_all past before l =
      let all : number - from ≡ to - from = omega (arith, f.within) in
      subst (λ (k : ℕ). Lists (before ++ range_with_len from k) width places len) all (f.lists before l)

  pub listing_full : from ≤ number → number < to → len ≡ width → (before : List ℕ) → Lists before width numbers listed
      → Lists (before ++ range_with_len from (to - from)) width places len
  listing_full reached within full before l =
      let whole : to - from ≡ number - from + (to - number) = omega arith in
      let here : from + (number - from) ≡ number = omega arith in
      let all : before ++ range_with_len from (number - from) ++ range_with_len number (to - number) ≡ before ++ range_with_len from (to - from) =
      append_assoc before (range_with_len from (number - from)) (range_with_len number (to - number))
      ∙ ap (λ (xs : List ℕ). before ++ xs) (sym (ap (range_with_len from) whole ∙ range_add from (number - from) (to - number)
      ∙ ap (λ (k : ℕ). range_with_len from (number - from) ++ range_with_len k (to - number)) here)) in
      subst (λ (xs : List ℕ). Lists xs width places len) all (lists_full (f.lists before l) full (range_with_len number (to - number)))

-- ---- run by run: the numbers up to one are listed, and the runs from there on have the rest

pub record AtRun (members : List Bool) (width : ℕ) (rest : List Run) (from : ℕ) (places : List ℕ) (len : ℕ) : Type 0 where
  pub most : len ≤ width
  pub lists : Lists (absent_below members from) width places len
  pub within : from ≤ length members
  pub apart : Parted from (length members + 1) rest
  pub numbers : (i : ℕ) → from ≤ i → has members i ≡ is_in_any rest i

pub at_first : (members : List Bool) (width : ℕ) (runs : List Run) → AreRuns members runs → AtRun members width runs 0 (replicate max_width 0) 0
at_first members width runs are = record {
  most = omega arith;
  lists = record { holds = ap (λ (xs : List ℕ). xs ++ replicate max_width 0) (sym (take_all width [] (omega arith))); count = ap length (take_all width [] (omega arith)) };
  within = omega arith;
  apart = parted_from (length members) runs are.apart;
  numbers = λ i h. are.numbers i;
}

pub at_next : (members : List Bool) (width : ℕ) (run : Run) (rest : List Run) (from : ℕ) (places places' : List ℕ) (len len' : ℕ)
    → AtRun members width (run ∷ rest) from places len → len' ≤ width → Lists (absent_below members from ++ range_with_len from (run.start - from)) width places' len'
    → AtRun members width rest run.end places' len'
at_next members width run rest from places places' len len' at few lists =
    let begins = at.apart.0 in
    let some = at.apart.1 in
    let behind = at.apart.2 in
    let start : from + (run.start - from) ≡ run.start = omega (arith, begins) in
    let end : run.start + (run.end - run.start) ≡ run.end = omega (arith, some) in
    let gap : absent_below members run.start ≡ absent_below members from ++ range_with_len from (run.start - from) =
    ap (absent_below members) (sym start)
    ∙ absent_below-gap members from (run.start - from) (λ i low high.
    at.numbers i low ∙ none_behind i run.start (length members + 1) (run ∷ rest) (omega arith, some, behind) (omega arith)) in
    let same : absent_below members run.end ≡ absent_below members run.start =
    ap (absent_below members) (sym end)
    ∙ absent_below-run members run.start (run.end - run.start) (λ i low high.
    at.numbers i (omega (arith, begins)) ∙ ap (λ (b : Bool). b || is_in_any rest i) (is_of_run i run low (omega arith))) in
    record {
      most = few;
      lists = subst (λ (xs : List ℕ). Lists xs width places' len') (sym (same ∙ gap)) lists;
      within = omega (arith, parted_low (run.end + 1) (length members + 1) rest behind);
      apart = parted_less (run.end + 1) run.end (length members + 1) rest behind (omega arith);
      numbers = λ i low. at.numbers i (omega (arith, begins, some)) ∙ ap (λ (b : Bool). b || is_in_any rest i) (not_of i run low);
    }

pub at_full : (members : List Bool) (width : ℕ) (rest : List Run) (from : ℕ) (places : List ℕ) (len : ℕ) → AtRun members width rest from places len → len ≡ width
    → take len places ≡ window members width
at_full members width rest from places len at full =
    let more = absent_below-add members from (length members - from) in
    let to : from + (length members - from) ≡ length members = omega (arith, at.within) in
    let whole : absent_numbers members ≡ absent_below members from ++ more.0 = ap (absent_below members) (sym to) ∙ more.1 in
    lists_front (lists_full at.lists full more.0) ∙ ap (take width) (sym whole)

pub at_last : (members : List Bool) (width : ℕ) (from : ℕ) (places places' : List ℕ) (len len' : ℕ) → AtRun members width [] from places len
    → Lists (absent_below members from ++ range_with_len from (length members - from)) width places' len' → take len' places' ≡ window members width
at_last members width from places places' len len' at lists =
    let to : from + (length members - from) ≡ length members = omega (arith, at.within) in
    let whole : absent_numbers members ≡ absent_below members from ++ range_with_len from (length members - from) =
    ap (absent_below members) (sym to) ∙ absent_below-gap members from (length members - from) (λ i low high. at.numbers i low) in
    lists_front lists ∙ ap (take width) (sym whole)
