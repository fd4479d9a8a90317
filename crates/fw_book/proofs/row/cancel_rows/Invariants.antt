use Rattle.std.proofs.Common.{◌≡◌, ◌++◌, take, drop}
use Rattle.fw_book.specs.Rows.{cancelled_rows}
use Rattle.fw_book.proofs.row.cancel_rows.Given as goal

abbrev pub invariant-loop-row : goal.invariant-loop-row
invariant-loop-row l = l.rows ≡ cancelled_rows (take l.row-index l.initial.rows) ++ drop l.row-index l.initial.rows
