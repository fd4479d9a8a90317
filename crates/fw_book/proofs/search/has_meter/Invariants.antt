use Rattle.std.proofs.Common.{◌≡◌, ◌==◌, length}
use Rattle.std.specs.List.{list_any}
use Rattle.fw_book.specs.declared.row.Row.{Row}
use Rattle.fw_book.specs.Private.{rows_in}
use Rattle.fw_book.proofs.search.has_meter.Given as goal

abbrev pub invariant-loop-row : goal.invariant-loop-row
invariant-loop-row l = list_any (λ (row : Row). row.meter == l.meter) (rows_in l.rest) ≡ list_any (λ (row : Row). row.meter == l.meter) (rows_in l.rows)

abbrev pub decreases-loop-row : goal.decreases-loop-row
decreases-loop-row l = length l.rest
