-- The live rows once the row of a meter is taken out.
use Rattle.std.proofs.Common.{◌≡◌, ℕ, nat_eq, Bool, true, false, cond, [], ◌∷◌, get_or, slice_get, position, Option, Some, None, refl, sym, subst, ◌∙◌}
use Rattle.std.specs.Cmp.{nat_eq_equiv}
use Rattle.std.specs.List.{IsDistinct}
use Rattle.std.specs.Map.{keys_of}
use Rattle.std.proofs.lemmas.Bool.{cond-true, cond-false, false_from_ne_true}
use Rattle.std.proofs.lemmas.Bool.Decides.{Decides-eqb}
use Rattle.std.proofs.lemmas.Option.{slice_get-get_or}
use Rattle.indexmap.proofs.MapLemmas.{Found-position, swap_remove_entry-found, swap_remove_entry-missing}
use Rattle.indexmap.proofs.RemoveLemmas.{swap_out, none_out}
use Rattle.fw_head.specs.Row.{Row}
use Rattle.fw_head.specs.Head.{Rows, row_of, without_meter}

abbrev no_row : Option Row
no_row = None

-- the meter has no row then, every other one has its own, and none has two
pub record Left (meter : ℕ) (rows left : Rows) : Type 0 where
  pub found : (m : ℕ) → row_of left m ≡ cond (nat_eq meter m) no_row (row_of rows m)
  pub once : IsDistinct nat_eq (keys_of left)

left_at : (meter : ℕ) (rows : Rows) (i : ℕ) (entry : ℕ × Row) → position (nat_eq meter) (keys_of rows) ≡ Some i → slice_get rows i ≡ Some entry → IsDistinct nat_eq (keys_of rows) → Left meter rows (without_meter meter rows)
left_at meter rows i entry at is once =
    let out = swap_out nat_eq nat_eq_equiv (nat_eq meter) (nat_eq_equiv.congr meter) rows i entry at is once (without_meter meter rows) (swap_remove_entry-found (nat_eq meter) rows i entry at) in
    record { found = λ m. out.updated.0 m; once = out.unique }

left_as : (meter : ℕ) (rows : Rows) → position (nat_eq meter) (keys_of rows) ≡ None → IsDistinct nat_eq (keys_of rows) → Left meter rows (without_meter meter rows)
left_as meter rows none once =
    let same : without_meter meter rows ≡ rows = swap_remove_entry-missing (nat_eq meter) rows none in
    let out = none_out nat_eq nat_eq_equiv (nat_eq meter) (nat_eq_equiv.congr meter) rows (without_meter meter rows) none same in
    record { found = λ m. out.0 m; once = subst (λ (rs : Rows). IsDistinct nat_eq (keys_of rs)) (sym same) once }

none_either : (b : Bool) → no_row ≡ cond b no_row no_row
none_either true = refl
none_either false = refl

pub left_without : (meter : ℕ) (rows : Rows) → IsDistinct nat_eq (keys_of rows) → Left meter rows (without_meter meter rows)
left_without meter [] once = record { found = λ m. none_either (nat_eq meter m); once = once }
left_without meter (entry ∷ entries) once = by (position (nat_eq meter) (keys_of (entry ∷ entries))) refl
  where
    by : (at : Option ℕ) → position (nat_eq meter) (keys_of (entry ∷ entries)) ≡ at → Left meter (entry ∷ entries) (without_meter meter (entry ∷ entries))
    by None none = left_as meter (entry ∷ entries) none once
    by (Some i) at =
        let rows : Rows = entry ∷ entries in
        left_at meter rows i (get_or rows i entry) at (slice_get-get_or rows i entry (Found-position (nat_eq meter) rows i at).within) once

-- every other meter keeps its row
pub elsewhere : (meter m : ℕ) (rows : Rows) → IsDistinct nat_eq (keys_of rows) → ¬ (m ≡ meter) → row_of (without_meter meter rows) m ≡ row_of rows m
elsewhere meter m rows once apart =
    let away : nat_eq meter m ≡ false = false_from_ne_true (nat_eq meter m) (λ same. apart (sym ((Decides-eqb meter m).0 same))) in
    (left_without meter rows once).found m ∙ cond-false (nat_eq meter m) no_row (row_of rows m) away

-- the meter itself has none
pub taken_out : (meter : ℕ) (rows : Rows) → IsDistinct nat_eq (keys_of rows) → row_of (without_meter meter rows) meter ≡ None
taken_out meter rows once = (left_without meter rows once).found meter ∙ cond-true (nat_eq meter meter) no_row (row_of rows meter) (nat_eq_equiv.refl meter)
