-- The object of the event of a row tells of that row.
use Rattle.std.proofs.Common.{◌≡◌, ℕ, ◌<◌, ◌^◌, ◌==◌, List, true, Option, Some, refl, arith, eq-eqb}
use Rattle.std.specs.Prelude.{nat_lt}
use Rattle.std.proofs.lemmas.Bool.Decides.{nat_tests}
use Rattle.fw_book.specs.declared.notes.End.{End}
use Rattle.fw_book.specs.declared.row.RowState.{RowState}
use Rattle.fw_book.specs.Notes.{place}
use Rattle.fw_events.specs.Events.{row_data}
use Rattle.fw_events.specs.Told.{row_in}

pub found : (time : List ℕ) (head serial meter : ℕ) (state : RowState) (end : Option End) → serial < 2 ^ 32 → meter < 2 ^ 32
    → row_in head (row_data time head serial meter state end) ≡ Some (place serial meter)
found time head serial meter state end low few =
    let own : head == head ≡ true = eq-eqb head head refl in
    let is_serial : nat_lt serial (2 ^ 32) ≡ true = grind (arith, nat_tests) in
    let is_meter : nat_lt meter (2 ^ 32) ≡ true = grind (arith, nat_tests) in
    simp (own, is_serial, is_meter)
