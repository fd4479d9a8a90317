-- Public vocabulary: the rows of a book as a table, as comma-separated values (RFC 4180) and as JSON (RFC 8259).
use Rattle.std.specs.Prelude.{ℕ, List, ◌++◌, filter, flat_map, length, map, codes, decimal}
use Rattle.serde_json.specs.Data.{Data, array, object, member, no_members}
use Rattle.serde_json.specs.View.{items_of}
use Rattle.serde_json.specs.Written.{compact_text}
use Rattle.fw_book.specs.declared.row.RowState.{RowState}
use Rattle.fw_book.specs.declared.row.RowState.TheVariants as state
use Rattle.fw_rows.specs.Json.{number_data}
use Rattle.fw_rows.specs.Noted.{Noted, csv_headings, csv_row, noted_data, row_cells}
use Rattle.fw_rows.specs.Table.{row_headings}
use Rattle.fw_status.specs.Campaigns.{is_in}

-- how many rows are in this state
abbrev pub count_of : RowState → List Noted → ℕ
count_of wanted rows = length (filter (λ (noted : Noted). is_in wanted noted.row.state) rows)

abbrev pub counts_line : List Noted → List ℕ
counts_line rows =
    codes "\nlive " ++ (decimal (count_of state.Live rows) ++ (codes " done " ++ (decimal (count_of state.Done rows) ++ (codes " failed "
    ++ (decimal (count_of state.Failed rows) ++ (codes " cancelled " ++ (decimal (count_of state.Cancelled rows) ++ codes "\n")))))))

-- a table, and how many rows are in which state
abbrev pub rows_table : List Noted → List ℕ
rows_table rows = row_headings ++ (flat_map (λ (row : Noted). row_cells row) rows ++ counts_line rows)

abbrev pub rows_csv : List Noted → List ℕ
rows_csv rows = csv_headings ++ flat_map (λ (row : Noted). csv_row row) rows

abbrev pub rows_data : List Noted → Data
rows_data rows = object (member (codes "cancelled") (number_data (count_of state.Cancelled rows))
    (member (codes "done") (number_data (count_of state.Done rows)) (member (codes "failed") (number_data (count_of state.Failed rows))
    (member (codes "live") (number_data (count_of state.Live rows))
    (member (codes "rows") (array (items_of (map (λ (row : Noted). noted_data row) rows))) no_members)))))

abbrev pub rows_json : List Noted → List ℕ
rows_json rows = compact_text (rows_data rows) ++ codes "\n"
