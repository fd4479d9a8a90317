use Rattle.std.proofs.Common.{◌≡◌, ◌++◌, take, flat_map}
use Rattle.fw_book.specs.declared.row.Row.{Row}
use Rattle.fw_rows.specs.Noted.{noted_entry}
use Rattle.fw_rows.proofs.noted.push_rows.Given as goal

abbrev pub invariant-loop-row : goal.invariant-loop-row
invariant-loop-row l = l.rows.items ≡ l.initial.rows.items ++ flat_map (λ (row : Row). noted_entry l.notes l.campaign row) (take l.row-index l.offered)
