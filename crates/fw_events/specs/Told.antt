-- Public vocabulary: of which rows the lines of a file of events tell, and which events of a book's rows it lacks.
use Rattle.std.specs.Prelude.{ℕ, ◌^◌, ◌==◌, ◌&&◌, ◌||◌, if◌then◌else◌, Bool, false, List, [], ◌∷◌, Option, None, Some, bytes_eq, codes, flat_map, nat_eq, nat_lt, option_and_then}
use Rattle.std.specs.HashSet.{contains}
use Rattle.serde_json.specs.Data.{Data}
use Rattle.serde_json.specs.Find.{as_number, as_str, as_u64, get}
use Rattle.serde_json.specs.Read.{read}
use Rattle.fw_names.specs.Name.{Campaign}
use Rattle.fw_book.specs.declared.row.Row.{Row}
use Rattle.fw_book.specs.Notes.{Known, end_of, place}
use Rattle.fw_book.specs.Rows.{is_live}
use Rattle.fw_events.specs.declared.event.Event.{Event}
use Rattle.fw_events.specs.declared.event.Event.TheVariants as event
use Rattle.fw_events.specs.declared.told.ToldRows.{ToldRows}

-- ---- what a line tells

abbrev pub is_number : ℕ → Option ℕ → Bool
is_number n None = false
is_number n (Some other) = other == n

abbrev pub is_word : List ℕ → Option (List ℕ) → Bool
is_word word None = false
is_word word (Some text) = bytes_eq text word

-- the number that a member of an object has
abbrev pub number_at : List ℕ → Data → Option ℕ
number_at key shown = option_and_then as_u64 (option_and_then as_number (get key shown))

-- whether an object is the event of a row, and whether it is of this head end
abbrev pub is_row : Data → Bool
is_row shown = is_word (codes "row") (option_and_then as_str (get (codes "event") shown))

abbrev pub is_of_head : ℕ → Data → Bool
is_of_head head shown = is_number head (number_at (codes "head") shown)

-- the place of a row whose numbers have four bytes
abbrev pub place_if : Option ℕ → Option ℕ → Option ℕ
place_if None meter = None
place_if (Some serial) None = None
place_if (Some serial) (Some meter) = if nat_lt serial (2 ^ 32) && nat_lt meter (2 ^ 32) then Some (place serial meter) else None

-- the row of this head end of which an object tells
abbrev pub row_in : ℕ → Data → Option ℕ
row_in head shown =
    if is_row shown && is_of_head head shown then place_if (number_at (codes "campaign") shown) (number_at (codes "meter") shown) else None

-- of which a line does
abbrev pub row_of : ℕ → List ℕ → Option ℕ
row_of head line = option_and_then (row_in head) (read line)

-- whether one of the lines that were taken tells of the row at this place
abbrev pub tells_of : ToldRows → ℕ → Bool
tells_of told row = contains nat_eq told.places row

-- ---- what they lack

-- the event of a row of a campaign that ended, if none tells of it
abbrev pub untold_event : ToldRows → Known → Campaign → Row → List Event
untold_event told known campaign row =
    if is_live row.state || tells_of told (place campaign.serial row.meter) then []
    else (event.Row campaign.serial row.meter row.state (end_of known campaign.serial row.meter) ∷ [])

-- in the order of the rows
abbrev pub untold_events : ToldRows → Known → Campaign → List Row → List Event
untold_events told known campaign rows = flat_map (λ (row : Row). untold_event told known campaign row) rows
