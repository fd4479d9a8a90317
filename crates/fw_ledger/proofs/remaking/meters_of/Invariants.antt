use Rattle.std.proofs.Common.{◌≡◌, ◌++◌, length}
use Rattle.fw_book.specs.Rows.{meters_of}
use Rattle.fw_ledger.proofs.remaking.meters_of.Given as goal

abbrev pub invariant-loop-row : goal.invariant-loop-row
invariant-loop-row l = l.meters.items ++ meters_of l.rest ≡ meters_of l.rows

abbrev pub decreases-loop-row : goal.decreases-loop-row
decreases-loop-row l = length l.rest
