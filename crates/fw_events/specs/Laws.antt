-- Public vocabulary: what the laws say.
use Rattle.std.specs.Prelude.{◌≡◌, ℕ, ◌<◌, ◌^◌, ◌||◌, if◌then◌else◌, List, [], ◌∷◌, flat_map, Option, Some}
use Rattle.serde_json.specs.Written.{compact_text}
use Rattle.fw_book.specs.declared.notes.End.{End}
use Rattle.fw_book.specs.declared.row.RowState.{RowState}
use Rattle.fw_book.specs.Contents.{Contents, Offered}
use Rattle.fw_book.specs.Notes.{Known, place}
use Rattle.fw_book.specs.Rows.{is_live}
use Rattle.fw_rows.specs.Noted.{Noted, noted_of_book}
use Rattle.fw_events.specs.declared.event.Event.{Event}
use Rattle.fw_events.specs.declared.event.Event.TheVariants.{Row}
use Rattle.fw_events.specs.Events.{IsEvent, row_data}
use Rattle.fw_events.specs.declared.told.ToldRows.{ToldRows}
use Rattle.fw_events.specs.Told.{row_of, tells_of, untold_events}

-- The line of the event of a row tells of that row, without its line feed.
abbrev pub RowsAreFound : Type 0
RowsAreFound = (nanoseconds head serial meter : ℕ) (state : RowState) (end : Option End) (line : List ℕ)
    → (is : IsEvent nanoseconds head (Row serial meter state end) line) → serial < 2 ^ 32 → meter < 2 ^ 32
    → row_of head (compact_text (row_data is.time head serial meter state end)) ≡ Some (place serial meter)

-- the event of a row as a book has it with its notes, if it ended and none tells of it
abbrev pub lacking_event : ToldRows → Noted → List Event
lacking_event told noted =
    if is_live noted.row.state || tells_of told (place noted.row.serial noted.row.meter) then []
    else (Row noted.row.serial noted.row.meter noted.row.state noted.end ∷ [])

-- What the campaigns of a book lack, one after the other, is what its rows lack, in their order.
abbrev pub CampaignsLackAll : Type 0
CampaignsLackAll = (told : ToldRows) (known : Known) (book : Contents)
    → flat_map (λ (entry : ℕ × Offered). untold_events told known (record { head = book.head; serial = entry.0 }) entry.1.rows) book.campaigns
    ≡ flat_map (λ (noted : Noted). lacking_event told noted) (noted_of_book known book)
