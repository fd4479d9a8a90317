use Rattle.std.proofs.Common.{◌≡◌, length}
use Rattle.fw_book.specs.Rows.{is_live_in}
use Rattle.fw_book.specs.Private.{rows_in}
use Rattle.fw_book.proofs.search.is_live.Given as goal

abbrev pub invariant-loop-row : goal.invariant-loop-row
invariant-loop-row l = is_live_in (rows_in l.rest) l.meter ≡ is_live_in (rows_in l.rows) l.meter

abbrev pub decreases-loop-row : goal.decreases-loop-row
decreases-loop-row l = length l.rest
