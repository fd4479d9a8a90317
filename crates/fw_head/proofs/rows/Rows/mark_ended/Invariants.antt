use Rattle.std.proofs.Common.{◌≡◌, nat_eq}
use Rattle.std.specs.List.{IsDistinct, AllByRecursion}
use Rattle.std.specs.Map.{keys_of, values_of}
use Rattle.fw_head.specs.Parts.{by_meter, with_ends}
use Rattle.fw_head.specs.Private.{IsOfBook}
use Rattle.fw_head.proofs.rows.Rows.mark_ended.Given as goal

-- the rows that are left are live in the book, and their ends are all that is still to be marked
abbrev pub invariant-loop-row : goal.invariant-loop-row
invariant-loop-row l =
    (with_ends l.book l.row-iterator ≡ with_ends l.fn.book (values_of l.self.rows.entries))
    × AllByRecursion (IsOfBook l.book) l.row-iterator
    × IsDistinct nat_eq (keys_of (by_meter l.row-iterator))
