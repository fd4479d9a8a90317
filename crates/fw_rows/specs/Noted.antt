-- Public vocabulary: the rows of a book with what is known of them beside their states, as a table, as comma-separated values (RFC 4180) and
-- as JSON (RFC 8259). A time is in seconds since 1970 began (UTC).
use Rattle.std.specs.Prelude.{ℕ, List, [], ◌∷◌, ◌++◌, flat_map, Option, None, Some, codes, decimal}
use Rattle.serde_json.specs.Data.{Data, string, null, object, member, no_members}
use Rattle.fw_names.specs.Name.{Campaign}
use Rattle.fw_book.specs.declared.row.Row.{Row}
use Rattle.fw_book.specs.declared.notes.End.{End}
use Rattle.fw_book.specs.declared.notes.Reason.{Reason}
use Rattle.fw_book.specs.Contents.{Contents, Offered}
use Rattle.fw_book.specs.Notes.{Known, opened_at, end_of}
use Rattle.fw_rows.specs.declared.row.RowEntry.{RowEntry}
use Rattle.fw_rows.specs.Failure.{failure_words, why_words}
use Rattle.fw_rows.specs.Json.{number_data}
use Rattle.fw_rows.specs.States.{state_word}
use Rattle.fw_rows.specs.Table.{number_cell}

-- ---- the rows

-- a row, when its campaign was opened, and when it ended and why it failed, as far as that is known
pub record Noted : Type 0 where
  pub row : RowEntry
  pub opened : Option ℕ
  pub end : Option End

abbrev pub noted_entry : Known → Campaign → Row → List Noted
noted_entry known campaign row = record {
  row = record { head = campaign.head; serial = campaign.serial; meter = row.meter; state = row.state };
  opened = opened_at known campaign.serial;
  end = end_of known campaign.serial row.meter;
} ∷ []

-- the rows of a campaign, in the order given
abbrev pub noted_of_campaign : Known → ℕ → ℕ × Offered → List Noted
noted_of_campaign known head entry = flat_map (λ (row : Row). noted_entry known (record { head = head; serial = entry.0 }) row) entry.1.rows

-- the campaigns of a book, in opening order
abbrev pub noted_of_book : Known → Contents → List Noted
noted_of_book known book = flat_map (λ (entry : ℕ × Offered). noted_of_campaign known book.head entry) book.campaigns

-- ---- when a row ended, and why it failed

abbrev pub end_time : Option End → Option ℕ
end_time None = None
end_time (Some told) = Some told.at

abbrev pub reason_of_end : Option End → Option Reason
reason_of_end None = None
reason_of_end (Some told) = told.reason

-- ---- a table

abbrev pub row_cells : Noted → List ℕ
row_cells noted =
    number_cell noted.row.head ++ (number_cell noted.row.serial ++ (number_cell noted.row.meter ++ (state_word noted.row.state
    ++ (why_words (reason_of_end noted.end) ++ codes "\n"))))

-- ---- comma-separated values

abbrev pub csv_headings : List ℕ
csv_headings = codes "head,campaign,meter,state,opened,ended,reason\n"

-- a comma, and a time, if it is known
abbrev pub time_field : Option ℕ → List ℕ
time_field None = codes ","
time_field (Some time) = codes "," ++ decimal time

-- a comma, and why a row failed, if it is known
abbrev pub reason_field : Option Reason → List ℕ
reason_field None = codes ","
reason_field (Some why) = codes "," ++ failure_words why

-- when the campaign was opened, when the row ended, and why it failed
abbrev pub noted_fields : Noted → List ℕ
noted_fields noted =
    time_field noted.opened ++ (time_field (end_time noted.end) ++ (reason_field (reason_of_end noted.end) ++ codes "\n"))

abbrev pub csv_row : Noted → List ℕ
csv_row noted =
    decimal noted.row.head ++ (codes "," ++ (decimal noted.row.serial ++ (codes "," ++ (decimal noted.row.meter ++ (codes ","
    ++ (state_word noted.row.state ++ noted_fields noted))))))

-- ---- JSON

abbrev pub time_data : Option ℕ → Data
time_data None = null
time_data (Some time) = number_data time

abbrev pub reason_data : Option Reason → Data
reason_data None = null
reason_data (Some why) = string (failure_words why)

abbrev pub noted_data : Noted → Data
noted_data noted = object (member (codes "campaign") (number_data noted.row.serial) (member (codes "ended") (time_data (end_time noted.end))
    (member (codes "head") (number_data noted.row.head) (member (codes "meter") (number_data noted.row.meter)
    (member (codes "opened") (time_data noted.opened) (member (codes "reason") (reason_data (reason_of_end noted.end))
    (member (codes "state") (string (state_word noted.row.state)) no_members)))))))
