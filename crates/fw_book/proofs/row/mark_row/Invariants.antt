use Rattle.std.proofs.Common.{◌≡◌, ◌++◌, take, drop}
use Rattle.fw_book.specs.Rows.{with_state}
use Rattle.fw_book.proofs.row.mark_row.Given as goal

abbrev pub invariant-loop-row : goal.invariant-loop-row
invariant-loop-row l = l.rows ≡ with_state l.meter l.state (take l.row-index l.initial.rows) ++ drop l.row-index l.initial.rows
