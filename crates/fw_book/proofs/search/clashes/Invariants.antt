use Rattle.std.proofs.Common.{◌≡◌, ℕ, List, length}
use Rattle.fw_book.specs.Contents.{Offered}
use Rattle.fw_book.specs.Private.{clashes, AreEntries, rows_in}
use Rattle.fw_book.proofs.search.clashes.Given as goal

abbrev pub invariant-loop-row : goal.invariant-loop-row
invariant-loop-row l = (list : List (ℕ × Offered)) → AreEntries l.version l.entries list → clashes list (rows_in l.rest) ≡ clashes list (rows_in l.rows)

abbrev pub decreases-loop-row : goal.decreases-loop-row
decreases-loop-row l = length l.rest
