use Rattle.std.proofs.Common.{◌≡◌, ◌++◌, map, take}
use Rattle.serde_json.specs.View.{view}
use Rattle.fw_rows.specs.Noted.{Noted, noted_data}
use Rattle.fw_status.proofs.rows.push_noted_values.Given as goal

abbrev pub invariant-loop-row : goal.invariant-loop-row
invariant-loop-row l = map view l.values.items ≡ map view l.initial.values.items ++ map (λ (row : Noted). noted_data row) (take l.row-index l.rows)
