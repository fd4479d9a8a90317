-- Public vocabulary: the rows of a campaign, one for each of its meters, in the order given.
use Rattle.std.specs.Prelude.{ℕ, Bool, true, false, ◌==◌, ◌&&◌, ◌||◌, List, [], ◌∷◌, map, Option, find, if◌then◌else◌}
use Rattle.std.specs.List.{list_any}
use Rattle.std.specs.Option.{option_map}
use Rattle.fw_book.specs.declared.row.Row.{Row}
use Rattle.fw_book.specs.declared.row.RowState.{RowState}
use Rattle.fw_book.specs.declared.row.RowState.TheVariants.{Live, Done, Failed, Cancelled}

-- a row that hasn't ended
abbrev pub is_live : RowState → Bool
is_live Live = true
is_live Done = false
is_live Failed = false
is_live Cancelled = false

-- the row that a meter has when its campaign is opened
abbrev pub live_row : ℕ → Row
live_row meter = record { meter = meter; state = Live }

-- the meters, in the order given
abbrev pub meters_of : List Row → List ℕ
meters_of rows = map (λ (row : Row). row.meter) rows

-- whether a number stands twice
abbrev pub repeats : List ℕ → Bool
repeats [] = false
repeats (meter ∷ meters) = list_any (λ other. other == meter) meters || repeats meters

-- the state of a meter's row, if the meter has one
abbrev pub state_of : List Row → ℕ → Option RowState
state_of rows meter = option_map (λ (row : Row). row.state) (find (λ (row : Row). row.meter == meter) rows)

-- whether a row of the meter is live
abbrev pub is_live_in : List Row → ℕ → Bool
is_live_in rows meter = list_any (λ (row : Row). (row.meter == meter) && is_live row.state) rows

-- whether any row is live
abbrev pub has_live : List Row → Bool
has_live rows = list_any (λ (row : Row). is_live row.state) rows

-- the row, in this state where it is the meter's
abbrev pub marked_row : ℕ → RowState → Row → Row
marked_row meter state row = if row.meter == meter then record { meter = row.meter; state = state } else row

-- the rows with that of the meter in this state
abbrev pub with_state : ℕ → RowState → List Row → List Row
with_state meter state rows = map (λ (row : Row). marked_row meter state row) rows

-- the row, cancelled where it is live
abbrev pub cancelled_row : Row → Row
cancelled_row row = if is_live row.state then record { meter = row.meter; state = Cancelled } else row

-- the rows with those that were live cancelled
abbrev pub cancelled_rows : List Row → List Row
cancelled_rows rows = map (λ (row : Row). cancelled_row row) rows
