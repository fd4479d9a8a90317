use Rattle.std.proofs.Common.{◌≡◌, ◌++◌, map, take}
use Rattle.serde_json.specs.View.{view}
use Rattle.fw_inventory.specs.Json.{row_data}
use Rattle.fw_survey.specs.Rows.{Row}
use Rattle.fw_inventory.proofs.json.push_values.Given as goal

abbrev pub invariant-loop-row : goal.invariant-loop-row
invariant-loop-row l = map view l.values.items ≡ map view l.initial.values.items ++ map (λ (row : Row). row_data l.offer row) (take l.row-index l.rows)
