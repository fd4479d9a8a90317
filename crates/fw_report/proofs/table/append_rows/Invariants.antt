use Rattle.std.proofs.Common.{◌≡◌, ◌++◌, take, flat_map}
use Rattle.std.specs.Prelude.{string_bytes}
use Rattle.fw_rows.specs.declared.row.RowEntry.{RowEntry}
use Rattle.fw_report.specs.Table.{row_cells}
use Rattle.fw_report.proofs.table.append_rows.Given as goal

abbrev pub invariant-loop-row : goal.invariant-loop-row
invariant-loop-row l = string_bytes l.text ≡ string_bytes l.initial.text ++ flat_map (λ (row : RowEntry). row_cells row) (take l.row-index l.rows)
