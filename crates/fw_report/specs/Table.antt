-- Public vocabulary: the report of a world as tables, a whole text: one of the rows of its campaigns, and one of its meters. A number fills a
-- column of 12 letters, so that the columns stand below their headings.
use Rattle.std.specs.Prelude.{ℕ, List, [], ◌++◌, flat_map, Option, None, Some, codes, decimal}
use Rattle.fw_image.specs.declared.status.TransferStatus.{TransferStatus}
use Rattle.fw_image.specs.declared.status.TransferStatus.TheVariants.{NotInitiated, Initiated, VerificationInitiated, VerificationSuccessful, VerificationFailed, ActivationSuccessful}
use Rattle.fw_report.specs.declared.refusal.Refusal.{Refusal}
use Rattle.fw_report.specs.declared.summary.MeterEntry.{MeterEntry}
use Rattle.fw_report.specs.Refusal.{cause_name}
use Rattle.fw_rows.specs.declared.row.RowEntry.{RowEntry}
use Rattle.fw_rows.specs.States.{state_word}
use Rattle.fw_rows.specs.Table.{number_cell, row_headings}

-- the standard's words for image_transfer_status, in a column of their own
abbrev pub status_cell : TransferStatus → List ℕ
status_cell NotInitiated = codes "not initiated            "
status_cell Initiated = codes "initiated                "
status_cell VerificationInitiated = codes "verification initiated   "
status_cell VerificationSuccessful = codes "verification successful  "
status_cell VerificationFailed = codes "verification failed      "
status_cell ActivationSuccessful = codes "activation successful    "

abbrev pub row_cells : RowEntry → List ℕ
row_cells row = number_cell row.head ++ (number_cell row.serial ++ (number_cell row.meter ++ (state_word row.state ++ codes "\n")))

abbrev pub meter_headings : List ℕ
meter_headings = codes "meter       status                   head end    campaign    release     bytes\n"

abbrev pub meter_cells : MeterEntry → List ℕ
meter_cells meter =
    number_cell meter.meter ++ (status_cell meter.status ++ (number_cell meter.head ++ (number_cell meter.serial
    ++ (number_cell meter.release ++ (decimal meter.size ++ codes "\n")))))

abbrev pub table_lines : List RowEntry → List MeterEntry → List ℕ
table_lines rows meters =
    row_headings ++ (flat_map (λ (row : RowEntry). row_cells row) rows
    ++ (codes "\n" ++ (meter_headings ++ flat_map (λ (meter : MeterEntry). meter_cells meter) meters)))

-- the number of the event, from 0 on, and why it was refused
abbrev pub refusal_words : Refusal → List ℕ
refusal_words refusal = codes "event " ++ (decimal refusal.at ++ (codes " refused: " ++ (cause_name refusal.cause ++ codes "\n")))

abbrev pub refusal_words_if : Option Refusal → List ℕ
refusal_words_if None = []
refusal_words_if (Some refusal) = refusal_words refusal

-- how often meters switched to an image
abbrev pub activated_words : ℕ → List ℕ
activated_words activations = codes "\nimages activated: " ++ (decimal activations ++ codes "\n")

-- that, and the event that was refused, if one was
abbrev pub table_ending : ℕ → Option Refusal → List ℕ
table_ending activations refusal = activated_words activations ++ refusal_words_if refusal

abbrev pub table_of : List RowEntry → List MeterEntry → ℕ → Option Refusal → List ℕ
table_of rows meters activations refusal = table_lines rows meters ++ table_ending activations refusal
