-- Public vocabulary: what a report says of a world, whatever its form: the rows of its campaigns, and its meters.
use Rattle.std.specs.Prelude.{ℕ, List, [], ◌∷◌, length, flat_map, Option, None, Some}
use Rattle.std.specs.Option.{option_map}
use Rattle.fw_image.specs.Meter.{Meter, status_of}
use Rattle.fw_book.specs.declared.row.Row.{Row}
use Rattle.fw_book.specs.Contents.{Contents, Offered}
use Rattle.fw_head.specs.Head.{Head}
use Rattle.fw_world.specs.declared.setup.HeadSetup.{HeadSetup}
use Rattle.fw_world.specs.declared.setup.MeterSetup.{MeterSetup}
use Rattle.fw_world.specs.declared.setup.Setup.{Setup}
use Rattle.fw_world.specs.State.{State, head_at, meter_at}
use Rattle.fw_rows.specs.declared.row.RowEntry.{RowEntry}
use Rattle.fw_report.specs.declared.summary.MeterEntry.{MeterEntry}

abbrev pub row_entry : ℕ → ℕ → Row → List RowEntry
row_entry head serial row = record { head = head; serial = serial; meter = row.meter; state = row.state } ∷ []

-- the rows of a campaign, in the order given
abbrev pub rows_of_campaign : ℕ → ℕ × Offered → List RowEntry
rows_of_campaign head entry = flat_map (λ (row : Row). row_entry head entry.0 row) entry.1.rows

-- the campaigns of a head end, in opening order
abbrev pub rows_of_book : ℕ → Option Contents → List RowEntry
rows_of_book head None = []
rows_of_book head (Some book) = flat_map (λ (entry : ℕ × Offered). rows_of_campaign head entry) book.campaigns

abbrev pub rows_of_head : State → HeadSetup → List RowEntry
rows_of_head s head = rows_of_book head.head (option_map (λ (h : Head). h.book) (head_at s head.head))

-- the meter, its status, and the name and the size of the image that it runs
abbrev pub meter_entries : ℕ → Option Meter → List MeterEntry
meter_entries number None = []
meter_entries number (Some meter) = record {
  meter = number;
  status = status_of meter.phase;
  head = meter.running.name.campaign.head;
  serial = meter.running.name.campaign.serial;
  release = meter.running.name.release;
  size = length meter.running.bytes;
} ∷ []

abbrev pub meters_of_setup : State → MeterSetup → List MeterEntry
meters_of_setup s meter = meter_entries meter.meter (meter_at s meter.meter)

-- head ends and meters in the order of the setup
abbrev pub rows_of_world : Setup → State → List RowEntry
rows_of_world setup s = flat_map (λ (head : HeadSetup). rows_of_head s head) setup.heads.items

abbrev pub meters_of_world : Setup → State → List MeterEntry
meters_of_world setup s = flat_map (λ (meter : MeterSetup). meters_of_setup s meter) setup.meters.items
