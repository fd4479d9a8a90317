use Rattle.std.proofs.Common.{◌≡◌, ◌++◌, take, flat_map}
use Rattle.std.specs.Prelude.{string_bytes}
use Rattle.fw_inventory.specs.Cells.{table_line}
use Rattle.fw_survey.specs.Rows.{Row}
use Rattle.fw_inventory.proofs.table.append_lines.Given as goal

abbrev pub invariant-loop-row : goal.invariant-loop-row
invariant-loop-row l = string_bytes l.text ≡ string_bytes l.initial.text ++ flat_map (λ (row : Row). table_line l.offer row) (take l.row-index l.rows)
