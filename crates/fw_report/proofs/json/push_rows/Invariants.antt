use Rattle.std.proofs.Common.{◌≡◌, ◌++◌, map, take}
use Rattle.serde_json.specs.View.{view}
use Rattle.fw_rows.specs.declared.row.RowEntry.{RowEntry}
use Rattle.fw_report.specs.Json.{row_data}
use Rattle.fw_report.proofs.json.push_rows.Given as goal

abbrev pub invariant-loop-row : goal.invariant-loop-row
invariant-loop-row l = map view l.values.items ≡ map view l.initial.values.items ++ map (λ (row : RowEntry). row_data row) (take l.row-index l.rows)
