use Rattle.std.proofs.Common.{◌≡◌, ◌++◌, take, flat_map}
use Rattle.std.specs.Prelude.{string_bytes}
use Rattle.fw_book.specs.declared.row.Row.{Row}
use Rattle.fw_report.specs.Report.{row_line}
use Rattle.fw_report.proofs.report.append_rows.Given as goal

abbrev pub invariant-loop-row : goal.invariant-loop-row
invariant-loop-row l = string_bytes l.text ≡ string_bytes l.initial.text ++ flat_map (λ (row : Row). row_line l.head l.serial row) (take l.row-index l.rows)
