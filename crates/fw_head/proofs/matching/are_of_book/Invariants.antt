use Rattle.std.proofs.Common.{length}
use Rattle.std.specs.List.{AllByRecursion}
use Rattle.fw_head.specs.Private.{IsOfBook}
use Rattle.fw_head.proofs.matching.are_of_book.Given as goal

-- the rows that are left are all of the book exactly if all rows are
abbrev pub invariant-loop-row : goal.invariant-loop-row
invariant-loop-row l =
    (AllByRecursion (IsOfBook l.book) l.rest → AllByRecursion (IsOfBook l.book) l.rows)
    × (AllByRecursion (IsOfBook l.book) l.rows → AllByRecursion (IsOfBook l.book) l.rest)

abbrev pub decreases-loop-row : goal.decreases-loop-row
decreases-loop-row l = length l.rest
