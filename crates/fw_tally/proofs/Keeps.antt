-- Each kind of step keeps the tally invariant.
use Rattle.std.proofs.Common.{◌≡◌, ◌≢◌, ℕ, zero, suc, ◌+◌, ◌-◌, ◌%◌, ◌^◌, ◌<◌, ◌≤◌, max, List, [], ◌∷◌, length, get_or, set, refl, sym, ◌∙◌, subst, ⊎_elim, le_trans, arith, length-set, get_or-set_same}
use Rattle.std.specs.Prelude.{All, sum_by}
use Rattle.std.proofs.lemmas.List.Elements.{All-push, All-set}
use Rattle.std.proofs.lemmas.List.Sums.{sum_by_push, sum_by-set, get_or-le-sum_by}
use mathlib.Core.Option.{some, none, some-injective, some-ne-none}
use lib.ListN.{get_elem?}
use Rattle.atomic_table.specs.Table.{step, stepped, keeps, Allows, Splits, Joins, Final, Seen}
use Rattle.atomic_table.proofs.Lists.{at_set}
use Rattle.fw_tally.specs.declared.rule.View.{View}
use Rattle.fw_tally.specs.Counted.{IsTally, TallyTable, Place, IsTallyTable, Finds, Marked, Looked, Fitted, view, marked, looked, joined, spent}

abbrev own : View → ℕ
own v = v.own

abbrev allowance : View → ℕ
allowance v = v.allowance

-- ---- a share among the shares

at_length : (vs : List View) (k : ℕ) (v : View) → get_elem? vs k ≡ some v → k < length vs
at_length [] k v e = absurd (some-ne-none v (sym e))
at_length (x ∷ xs) zero v e = omega arith
at_length (x ∷ xs) (suc k) v e = let h = at_length xs k v e in omega arith

at_value : (vs : List View) (k : ℕ) (v : View) → get_elem? vs k ≡ some v → get_or vs k v ≡ v
at_value [] k v e = refl
at_value (x ∷ xs) zero v e = some-injective x v e
at_value (x ∷ xs) (suc k) v e = at_value xs k v e

sum_set : (f : View → ℕ) (vs : List View) (k : ℕ) (v w : View) → get_elem? vs k ≡ some v → sum_by f (set vs k w) + f v ≡ sum_by f vs + f w
sum_set f vs k v w at =
    subst (λ (u : View). sum_by f (set vs k w) + f u ≡ sum_by f vs + f w) (at_value vs k v at) (sum_by-set f vs k w v (at_length vs k v at))

sum_at : (f : View → ℕ) (vs : List View) (k : ℕ) (v : View) → get_elem? vs k ≡ some v → f v ≤ sum_by f vs
sum_at f vs k v at = subst (λ (u : View). f u ≤ sum_by f vs) (at_value vs k v at) (get_or-le-sum_by f vs k v (at_length vs k v at))

seen_at : (word : ℕ) (vs : List View) (k : ℕ) (v : View) → get_elem? vs k ≡ some v → All (λ u. u.seen ≤ word) vs → v.seen ≤ word
seen_at word vs k v at all = subst (λ (u : View). u.seen ≤ word) (at_value vs k v at) (all k v (at_length vs k v at))

-- another share is the same where one of them changes
at_other : (vs : List View) (id other : ℕ) (v w : View) → ¬ (other ≡ id) → get_elem? (set vs id v) other ≡ some w → get_elem? vs other ≡ some w
at_other vs id other v w apart at = ⊎_elim (λ (t : (other ≡ id) × (v ≡ w)). absurd (apart t.0)) (λ (t : (other ≢ id) × (get_elem? vs other ≡ some w)). t.1) (at_set vs id other v w at)

-- ---- the tally

-- one share's view changes, and with it the word, which does not fall
changes : (start word : ℕ) (vs : List View) → IsTally start word vs → (id : ℕ) (v w : View) (n : ℕ) → get_elem? vs id ≡ some v
    → n + v.own ≡ word + w.own → v.own + v.allowance ≡ w.own + w.allowance → word ≤ n → w.seen ≤ n → IsTally start n (set vs id w)
changes start word vs b id v w n at counts whole up seen =
    let a = sum_set own vs id v w at in
    let c = sum_set allowance vs id v w at in
    let was = b.counted in
    let kept = b.kept in
    let fits = b.fits in record {
      counted = omega arith;
      seen = All-set (λ (u : View). u.seen ≤ n) vs id w seen (λ k d lt. le_trans (b.seen k d lt) up);
      fits = omega arith;
      kept = omega arith;
    }

-- the same at the table of the tally
steps : (start : ℕ) (s : TallyTable) → IsTallyTable start s → (id : ℕ) (v w : View) (n : ℕ) → get_elem? s.views id ≡ some v
    → n + v.own ≡ get_or s.words 0 0 + w.own → v.own + v.allowance ≡ w.own + w.allowance → get_or s.words 0 0 ≤ n → w.seen ≤ n
    → IsTallyTable start record { words = set s.words 0 n; homes = s.homes; views = set s.views id w }
steps start s b id v w n at counts whole up seen =
    let one = b.0 in
    let now : get_or (set s.words 0 n) 0 0 ≡ n = get_or-set_same s.words 0 n 0 (omega arith) in (
      length-set s.words 0 n ∙ one,
      subst (λ (x : ℕ). IsTally start x (set s.views id w)) (sym now) (changes start (get_or s.words 0 0) s.views b.1 id v w n at counts whole up seen),
    )

finds : (start : ℕ) (s : TallyTable) → IsTallyTable start s → (id : ℕ) (v : View) → get_elem? s.views id ≡ some v → Finds v (get_or s.words 0 0)
finds start s b id v at =
    let a = sum_at own s.views id v at in
    let c = sum_at allowance s.views id v at in
    let was = b.1.counted in
    let fits = b.1.fits in record {
      own = omega arith;
      seen = seen_at (get_or s.words 0 0) s.views id v at b.1.seen;
      fits = omega arith;
    }

-- ---- steps

pub marks : (start slots id : ℕ) (me : Place) → 0 < me.0.allowance → Allows (IsTallyTable start) slots id me 0 (λ n. (n + 1) % 2 ^ 64) (Marked (step slots 0 1 0 none) me)
marks start slots id me left s b _ at _ =
    let x : ℕ = get_or s.words 0 0 in
    let f = finds start s b id me.0 at in
    let fits = f.fits in
    let same : x + 1 ≡ (x + 1) % 2 ^ 64 = omega arith in
    let seen : x + 1 ≤ x + 1 = omega arith in (
      marked me.0 x,
      keeps,
      tt,
      subst (λ (n : ℕ). IsTallyTable start (stepped s 0 n id me.1 (marked me.0 x) keeps)) same (steps start s b id me.0 (marked me.0 x) (x + 1) at (omega arith) (omega arith) (omega arith) seen),
      (refl, f),
    )

pub looks : (start slots id : ℕ) (me : Place) → Allows (IsTallyTable start) slots id me 0 (λ n. n) (Looked (step slots 0 0 0 none) me)
looks start slots id me s b _ at _ =
    let x : ℕ = get_or s.words 0 0 in
    let same : x ≤ x = omega arith in (
      looked me.0 x,
      keeps,
      tt,
      steps start s b id me.0 (looked me.0 x) x at (omega arith) refl same same,
      (refl, finds start s b id me.0 at),
    )

pub fits : (start slots id : ℕ) (me : Place) → Allows (IsTallyTable start) slots id me 0 (λ n. n) (Fitted (step slots 0 0 0 none) me)
fits start slots id me s b _ at _ =
    let x : ℕ = get_or s.words 0 0 in
    let f = finds start s b id me.0 at in
    let same : x ≤ x = omega arith in (
      me.0,
      keeps,
      tt,
      steps start s b id me.0 me.0 x at (omega arith) refl same f.seen,
      (refl, f),
    )

pub splits : (start id : ℕ) (v : View) (n : ℕ) → n ≤ v.allowance → Splits (IsTallyTable start) id v (view v.own v.seen (v.allowance - n)) (view 0 v.seen n)
splits start id v n le s b at =
    let left : View = view v.own v.seen (v.allowance - n) in
    let right : View = view 0 v.seen n in
    let word : ℕ = get_or s.words 0 0 in
    let seen : v.seen ≤ word = seen_at word s.views id v at b.1.seen in
    let a = sum_set own s.views id v left at in
    let c = sum_set allowance s.views id v left at in
    let a' = sum_by_push own (set s.views id left) right in
    let c' = sum_by_push allowance (set s.views id left) right in
    let was = b.1.counted in
    let kept = b.1.kept in
    let all = b.1.fits in (
      b.0,
      record {
        counted = omega arith;
        seen = All-push (λ (u : View). u.seen ≤ word) (set s.views id left) right (All-set (λ (u : View). u.seen ≤ word) s.views id left seen b.1.seen) seen;
        fits = omega arith;
        kept = omega arith;
      },
    )

max_le : (a b c : ℕ) → a ≤ c → b ≤ c → max a b ≤ c
max_le a b c p q = omega arith

pub joins : (start id : ℕ) (v : View) (other : ℕ) (w : View) → Joins (IsTallyTable start) id v other w (joined v w) spent
joins start id v other w s b at apart at' =
    let one : List View = set s.views id (joined v w) in
    let word : ℕ = get_or s.words 0 0 in
    let a = sum_set own s.views id v (joined v w) at in
    let c = sum_set allowance s.views id v (joined v w) at in
    let a' = sum_set own one other w spent at' in
    let c' = sum_set allowance one other w spent at' in
    let was = b.1.counted in
    let kept = b.1.kept in
    let all = b.1.fits in
    let its : w.seen ≤ word = seen_at word s.views other w (at_other s.views id other (joined v w) w apart at') b.1.seen in
    let both : max v.seen w.seen ≤ word = max_le v.seen w.seen word (seen_at word s.views id v at b.1.seen) its in (
      b.0,
      record {
        counted = omega arith;
        seen = All-set (λ (u : View). u.seen ≤ word) one other spent (omega arith) (All-set (λ (u : View). u.seen ≤ word) s.views id (joined v w) both b.1.seen);
        fits = omega arith;
        kept = omega arith;
      },
    )

-- ---- the end

-- what the last share knows of the word at the end
pub record Ends (start : ℕ) (v : View) (count : ℕ) : Type 0 where
  pub own_at : v.own ≤ count
  pub seen_at' : v.seen ≤ count
  pub fits_at : count + v.allowance ≤ start + 2 ^ 63
  pub all_at : v.own + v.allowance ≡ start + 2 ^ 63 → count ≡ v.own

word_of : (ws : List ℕ) (n : ℕ) → get_elem? ws 0 ≡ some n → get_or ws 0 0 ≡ n
word_of [] n e = absurd (some-ne-none n (sym e))
word_of (x ∷ xs) n e = some-injective x n e

pub ends : (start id : ℕ) (v : View) (ws : List ℕ) (xs : List (Unit {0})) (n : ℕ) → Final (Seen (IsTallyTable start) id v) ws xs → get_elem? ws 0 ≡ some n → Ends start v n
ends start id v ws xs n end word =
    let s = end.0 in
    let b = end.1.0 in
    let at = end.1.1 in
    let is : get_or s.words 0 0 ≡ n = word_of s.words n (subst (λ (z : List ℕ). get_elem? z 0 ≡ some n) (sym end.2) word) in
    let f = finds start s b id v at in
    let seen = f.seen in
    let a = sum_at own s.views id v at in
    let c = sum_at allowance s.views id v at in
    let was = b.1.counted in
    let kept = b.1.kept in record {
      own_at = omega arith;
      seen_at' = omega arith;
      fits_at = omega arith;
      all_at = λ h. omega arith;
    }
