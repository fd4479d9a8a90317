-- What became of a question, and a list of rows of which one is changed.
use Rattle.std.proofs.Common.{◌≡◌, ◌≢◌, ◌⊎◌, ℕ, zero, suc, ◌+◌, ◌≤◌, true, false, List, [], ◌∷◌, map, Option, Some, None, inl, inr, ⊎_elim, refl, sym, ap, subst, ◌∙◌}
use Rattle.std.specs.Prelude.{MatchOption, is_some, nat_lt, slice_get, slice_set, sum_by, if◌then◌else◌}
use Rattle.std.proofs.lemmas.Bool.{cases_eq, false≢true, ltb-true, lt-ltb}
use Rattle.std.proofs.lemmas.List.Sums.{sum_by-set}
use Rattle.std.proofs.lemmas.Option.{get_or_from_slice_get, none-some, same_Some, slice_get_within}
use Rattle.fw_survey.specs.Rows.{Row, is_open}
use Rattle.fw_survey.specs.Survey.{ChangesAt}
use Rattle.fw_survey.specs.declared.answer.Answer.{Answer}
use Rattle.fw_survey.specs.declared.row.Inquiry.{Inquiry}

-- ---- a question that is open

open_by : (o : Option Answer) (n : ℕ) → (if is_some o then false else nat_lt 0 n) ≡ true → 1 ≤ n
open_by (Some a) n e = absurd (false≢true e)
open_by None n e = ltb-true 0 n e

pub open_asked : (inquiry : Inquiry) → is_open inquiry ≡ true → 1 ≤ inquiry.asked
open_asked inquiry e = open_by inquiry.answer inquiry.asked e

opens_by : (o : Option Answer) (n : ℕ) → o ≡ None → 1 ≤ n → (if is_some o then false else nat_lt 0 n) ≡ true
opens_by (Some a) n e h = absurd (none-some a (sym e))
opens_by None n e h = lt-ltb 0 n h

pub opens : (inquiry : Inquiry) → inquiry.answer ≡ None → 1 ≤ inquiry.asked → is_open inquiry ≡ true
opens inquiry e h = opens_by inquiry.answer inquiry.asked e h

-- ---- an item of a list that another takes the place of

pub at_place : {X : Type 0} (xs : List X) (i : ℕ) (x y : X) → slice_get xs i ≡ Some x → slice_get (slice_set xs i y) i ≡ Some y
at_place [] i x y h = absurd (none-some x h)
at_place (z ∷ xs) zero x y h = refl
at_place (z ∷ xs) (suc i) x y h = at_place xs i x y h

pub elsewhere : {X : Type 0} (xs : List X) (i k : ℕ) (y : X) → k ≢ i → slice_get (slice_set xs i y) k ≡ slice_get xs k
elsewhere [] i k y n = refl
elsewhere (x ∷ xs) zero zero y n = absurd (n refl)
elsewhere (x ∷ xs) zero (suc k) y n = refl
elsewhere (x ∷ xs) (suc i) zero y n = refl
elsewhere (x ∷ xs) (suc i) (suc k) y n = elsewhere xs i k y (λ (e : k ≡ i). n (ap suc e))

pub map_kept : {X Y : Type 0} (f : X → Y) (xs : List X) (i : ℕ) (x y : X) → slice_get xs i ≡ Some x → f y ≡ f x → map f (slice_set xs i y) ≡ map f xs
map_kept f [] i x y h e = refl
map_kept f (z ∷ xs) zero x y h e = ap (λ v. v ∷ map f xs) (e ∙ ap f (sym (same_Some z x h)))
map_kept f (z ∷ xs) (suc i) x y h e = ap (λ l. f z ∷ l) (map_kept f xs i x y h e)

pub sum_moved : {X : Type 0} (f : X → ℕ) (xs : List X) (i : ℕ) (x y : X) → slice_get xs i ≡ Some x → sum_by f (slice_set xs i y) + f x ≡ sum_by f xs + f y
sum_moved f xs i x y h =
    subst (λ z. sum_by f (slice_set xs i y) + f z ≡ sum_by f xs + f y) (get_or_from_slice_get xs i x x h) (sum_by-set f xs i y x (slice_get_within xs i x h))

-- ---- a list of rows of which one is changed

changed_from : (o : Option Row) (place : ℕ) (change : Row → Row) (old new : List Row) (row : Row) → o ≡ Some row
    → MatchOption o (new ≡ old) (λ r. new ≡ slice_set old place (change r)) → new ≡ slice_set old place (change row)
changed_from None place change old new row e h = absurd (none-some row e)
changed_from (Some r) place change old new row e h = h ∙ ap (λ x. slice_set old place (change x)) (same_Some r row e)

pub changed_row : (place : ℕ) (change : Row → Row) (old new : List Row) (row : Row) → slice_get old place ≡ Some row → ChangesAt place change old new
    → new ≡ slice_set old place (change row)
changed_row place change old new row e h = changed_from (slice_get old place) place change old new row e h

changed_none : (o : Option Row) (place : ℕ) (change : Row → Row) (old new : List Row) → o ≡ None
    → MatchOption o (new ≡ old) (λ r. new ≡ slice_set old place (change r)) → new ≡ old
changed_none None place change old new e h = h
changed_none (Some r) place change old new e h = absurd (none-some r (sym e))

-- what stands at a place afterwards stood there before, or is the one that was changed
pub record WasThere (place : ℕ) (change : Row → Row) (old : List Row) (other : ℕ) (row : Row) : Type 0 where
  pub apart : other ≢ place
  pub was : slice_get old other ≡ Some row

pub record IsChanged (place : ℕ) (change : Row → Row) (old : List Row) (other : ℕ) (row : Row) : Type 0 where
  pub before : Row
  pub here : other ≡ place
  pub was : slice_get old place ≡ Some before
  pub now : row ≡ change before

found_at : (o : Option Row) (place : ℕ) (change : Row → Row) (old new : List Row) → slice_get old place ≡ o → ChangesAt place change old new
    → (other : ℕ) (row : Row) → slice_get new other ≡ Some row → WasThere place change old other row ⊎ IsChanged place change old other row
found_at None place change old new e h other row is =
    let same : new ≡ old = changed_none (slice_get old place) place change old new e h in
    let was : slice_get old other ≡ Some row = subst (λ (l : List Row). slice_get l other ≡ Some row) same is in
    inl (record { apart = λ (at : other ≡ place). none-some row (sym e ∙ subst (λ (n : ℕ). slice_get old n ≡ Some row) at was); was = was })
found_at (Some before) place change old new e h other row is =
    let set : new ≡ slice_set old place (change before) = changed_row place change old new before e h in
    let there : slice_get (slice_set old place (change before)) other ≡ Some row = subst (λ (l : List Row). slice_get l other ≡ Some row) set is in
    ⊎_elim
    (λ (at : other ≡ place). inr (record {
      before = before;
      here = at;
      was = e;
      now = same_Some row (change before)
          (sym (subst (λ (n : ℕ). slice_get (slice_set old place (change before)) n ≡ Some row) at there) ∙ at_place old place before (change before) e);
    }))
    (λ (apart : other ≢ place). inl (record { apart = apart; was = sym (elsewhere old place other (change before) apart) ∙ there }))
    (cases_eq other place)

pub found : (place : ℕ) (change : Row → Row) (old new : List Row) → ChangesAt place change old new
    → (other : ℕ) (row : Row) → slice_get new other ≡ Some row → WasThere place change old other row ⊎ IsChanged place change old other row
found place change old new h other row is = found_at (slice_get old place) place change old new refl h other row is
