use Rattle.std.proofs.Common.{◌≡◌, ◌++◌, length}
use Rattle.fw_book.specs.Private.{rows_in}
use Rattle.fw_book.proofs.meters.rows_of.Given as goal

abbrev pub invariant-loop-row : goal.invariant-loop-row
invariant-loop-row l = l.rows.items ++ rows_in l.rest ≡ rows_in l.bytes

abbrev pub decreases-loop-row : goal.decreases-loop-row
decreases-loop-row l = length l.rest
