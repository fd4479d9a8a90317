use Rattle.std.proofs.Common.{◌≡◌, length}
use Rattle.fw_book.specs.Rows.{meters_of, repeats}
use Rattle.fw_book.specs.Private.{rows_in}
use Rattle.fw_book.proofs.search.repeats.Given as goal

abbrev pub invariant-loop-row : goal.invariant-loop-row
invariant-loop-row l = repeats (meters_of (rows_in l.rest)) ≡ repeats (meters_of (rows_in l.rows))

abbrev pub decreases-loop-row : goal.decreases-loop-row
decreases-loop-row l = length l.rest
