-- Public vocabulary: the report of a world as JSON (RFC 8259), on one line without spaces. The members of an object stand by their keys.
use Rattle.std.specs.Prelude.{ℕ, List, ◌++◌, map, Option, None, Some, codes}
use Rattle.serde_json.specs.Data.{Data, string, null, array, object, member, no_members}
use Rattle.serde_json.specs.View.{items_of}
use Rattle.serde_json.specs.Written.{compact_text}
use Rattle.fw_image.specs.Status.{status_number}
use Rattle.fw_report.specs.declared.refusal.Refusal.{Refusal}
use Rattle.fw_report.specs.declared.summary.MeterEntry.{MeterEntry}
use Rattle.fw_report.specs.Refusal.{cause_name}
use Rattle.fw_rows.specs.declared.row.RowEntry.{RowEntry}
use Rattle.fw_rows.specs.Json.{number_data}
use Rattle.fw_rows.specs.States.{state_word}

abbrev pub row_data : RowEntry → Data
row_data row = object (member (codes "campaign") (number_data row.serial) (member (codes "head") (number_data row.head)
    (member (codes "meter") (number_data row.meter) (member (codes "state") (string (state_word row.state)) no_members))))

-- the image that a meter runs
abbrev pub active_data : MeterEntry → Data
active_data meter = object (member (codes "campaign") (number_data meter.serial) (member (codes "head") (number_data meter.head)
    (member (codes "release") (number_data meter.release) (member (codes "size") (number_data meter.size) no_members))))

abbrev pub meter_data : MeterEntry → Data
meter_data meter = object (member (codes "active") (active_data meter) (member (codes "meter") (number_data meter.meter)
    (member (codes "status") (number_data (status_number meter.status)) no_members)))

-- the number of the event that was refused, from 0 on, and why it was; null if none was
abbrev pub refusal_data : Option Refusal → Data
refusal_data None = null
refusal_data (Some refusal) = object (member (codes "cause") (string (cause_name refusal.cause)) (member (codes "event") (number_data refusal.at) no_members))

abbrev pub report_data : List RowEntry → List MeterEntry → ℕ → Option Refusal → Data
report_data rows meters activations refusal = object (member (codes "activations") (number_data activations)
    (member (codes "meters") (array (items_of (map (λ (meter : MeterEntry). meter_data meter) meters)))
    (member (codes "refused") (refusal_data refusal)
    (member (codes "rows") (array (items_of (map (λ (row : RowEntry). row_data row) rows))) no_members))))

abbrev pub json_of : List RowEntry → List MeterEntry → ℕ → Option Refusal → List ℕ
json_of rows meters activations refusal = compact_text (report_data rows meters activations refusal) ++ codes "\n"
