-- A report in JSON has no float, so that its text is known.
use Rattle.std.proofs.Common.{◌≡◌, ℕ, List, [], ◌∷◌, map, false, Option, None, Some, refl}
use Rattle.serde_json.specs.View.{items_of}
use Rattle.serde_json.specs.Written.{has_float, items_have_float}
use Rattle.fw_report.specs.declared.refusal.Refusal.{Refusal}
use Rattle.fw_rows.specs.declared.row.RowEntry.{RowEntry}
use Rattle.fw_report.specs.declared.summary.MeterEntry.{MeterEntry}
use Rattle.fw_report.specs.Json.{row_data, meter_data, refusal_data, report_data}

rows_floatless : (rows : List RowEntry) → items_have_float (items_of (map (λ (row : RowEntry). row_data row) rows)) ≡ false
rows_floatless [] = refl
rows_floatless (row ∷ rows) = rows_floatless rows

meters_floatless : (meters : List MeterEntry) → items_have_float (items_of (map (λ (meter : MeterEntry). meter_data meter) meters)) ≡ false
meters_floatless [] = refl
meters_floatless (meter ∷ meters) = meters_floatless meters

refusal_floatless : (refusal : Option Refusal) → has_float (refusal_data refusal) ≡ false
refusal_floatless None = refl
refusal_floatless (Some refusal) = refl

pub report_floatless : (rows : List RowEntry) (meters : List MeterEntry) (activations : ℕ) (refusal : Option Refusal) → has_float (report_data rows meters activations refusal) ≡ false
report_floatless rows meters activations refusal = simp (rows_floatless rows, meters_floatless meters, refusal_floatless refusal)
