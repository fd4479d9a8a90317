use Rattle.std.proofs.Common.{◌≡◌, ℕ, ◌-◌, ◌+◌, ◌<◌, ◌≤◌, Bool, true, false, List, length, MatchBool, IsTrue, ◌↔◌, refl, sym, ap, ◌∙◌, inl, inr, rules, tests, arith}
use Rattle.std.specs.List.{HoldsAt, AllWithin, range_with_len}
use Rattle.std.proofs.lemmas.Bool.{cases_lt, false≢true}
use Rattle.std.proofs.lemmas.Iterator.{cases_from_all, YieldsList-from_range}
use Rattle.std.proofs.lemmas.List.{get_or_past}
use Rattle.std.proofs.lemmas.List.FromFn.{length-range_with_len, get_or-range_with_len}
use Rattle.fw_blocks.specs.Members.{has}
use Rattle.fw_store.proofs.header.is_unmarked_from.Goals as goal

-- the numbers from the first one to the last that can be marked
numbers : ℕ → ℕ → List ℕ
numbers first count = range_with_len first (count - first)

all_unmarked : (r : Bool) (marks : List Bool) (first count : ℕ) → count ≡ length marks
    → MatchBool r (AllWithin (λ n. has marks n ≡ false) (numbers first count) 0 (length (numbers first count)))
    ((k : ℕ) × (k < length (numbers first count)) × HoldsAt (λ n. has marks n ≡ true) (numbers first count) k)
    → IsTrue r ↔ ((i : ℕ) → first ≤ i → has marks i ≡ false)
unfolding numbers
all_unmarked true marks first count size all = (
  λ _ i from. elim (cases_lt i count) [
    | inl below ↦
        let here : first + (i - first) ≡ i = omega arith in
        let at = get_or-range_with_len first (count - first) (i - first) 0 (omega arith) ∙ here in
        ap (has marks) (sym at) ∙ all (i - first) 0 (omega arith) (omega (arith, length-range_with_len first (count - first)))
    | inr above ↦ get_or_past marks i false (omega arith)
  ],
  λ _. refl,
)
all_unmarked false marks first count size one =
    let within : one.0 < count - first = omega (arith, one.1, length-range_with_len first (count - first)) in
    let at = get_or-range_with_len first (count - first) one.0 0 within in
    (λ no. absurd (false≢true no), λ none. let marked = one.2 0 in let unmarked = ap (has marks) at ∙ none (first + one.0) (omega arith) in cc)

pub returns : goal.returns
unfolding numbers
returns c =
    let marks = c.args.marks.now in
    let first = c.args.first in
    let count = c.count.result in
    all_unmarked c.all.result marks first count c.count.ensures.value
    (cases_from_all _ _ c.all.result (λ (n : ℕ). has marks n ≡ false) (λ (n : ℕ). has marks n ≡ true) c.all.ensures.ran (YieldsList-from_range first count (count - first) refl refl)
    (λ x q k. search (rules, tests)) (λ x q k. search (rules, tests)))
