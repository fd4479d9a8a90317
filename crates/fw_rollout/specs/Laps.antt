-- Public vocabulary: the laps of a row, and how long it rests after one that gets nowhere. Times are in microseconds.
use Rattle.std.specs.Prelude.{ℕ, ◌+◌, ◌*◌, ◌-◌, ◌^◌, ◌≤◌, nat_le, nat_lt, min, Bool, true, false, not, ◌&&◌, ◌||◌, List, slice_get, slice_set, Option, Some, None, unwrap_or, if◌then◌else◌}
use Rattle.fw_book.specs.declared.phase.Phase.{Phase}
use Rattle.fw_book.specs.declared.phase.Phase.TheVariants as phase
use Rattle.fw_rollout.specs.Timing.{longest_wait}
use Rattle.fw_rollout.specs.declared.laps.Lap.{Lap}
use Rattle.fw_rollout.specs.declared.laps.Laps.{Laps}

-- the first lap of a row: none was before it, and half a second is half of the first rest
abbrev pub no_lap : Lap
no_lap = record { taken = 0; before = 2 ^ 32 - 1; rest = 500000; until = 0 }

-- twice the last rest, a minute at most
abbrev pub longer_rest : ℕ → ℕ
longer_rest rest = min (2 * rest) longest_wait

-- ---- an answer that leads from one phase to another

abbrev pub is_start : Phase → Bool
is_start phase.Start = true
is_start other = false

abbrev pub is_blocks : Phase → Bool
is_blocks phase.Blocks = true
is_blocks other = false

abbrev pub is_check : Phase → Bool
is_check phase.Check = true
is_check other = false

-- the row starts anew: its meter has no block then
abbrev pub starts : Phase → Phase → Bool
starts from to = is_start from && is_blocks to

-- the meter took a block
abbrev pub takes_block : Phase → Phase → Bool
takes_block from to = is_blocks from && (is_blocks to || is_check to)

-- a lap ends: the row comes to ask its meter whether it has all blocks
abbrev pub ends_lap : Phase → Phase → Bool
ends_lap from to = not (is_check from) && is_check to

-- ---- what it makes of the lap

abbrev pub with_block : Bool → Lap → Lap
with_block true lap = record lap { taken = min (lap.taken + 1) (2 ^ 32 - 1) }
with_block false lap = lap

-- The next lap once this one ended. If the meter took fewer blocks than in the lap before, it lacks fewer, and the row goes on at once. Else
-- the lap got nowhere, and the row rests, twice as long as the last time.
abbrev pub lap_ended : ℕ → Lap → Lap
lap_ended now lap =
    if nat_lt lap.taken lap.before then record no_lap { before = lap.taken }
    else record { taken = 0; before = lap.taken; rest = longer_rest lap.rest; until = min (now + longer_rest lap.rest) (2 ^ 64 - 1) }

-- the lap once an answer led from one phase to another
abbrev pub lap_after : ℕ → Phase → Phase → Lap → Lap
lap_after now from to lap =
    if starts from to then no_lap
    else (if ends_lap from to then lap_ended now (with_block (takes_block from to) lap) else with_block (takes_block from to) lap)

-- the same for a row that has a phase
abbrev pub lap_between : ℕ → Option Phase → Option Phase → Lap → Lap
lap_between now (Some from) (Some to) lap = lap_after now from to lap
lap_between now (Some from) None lap = lap
lap_between now None to lap = lap

-- a lap ends that got nowhere
abbrev pub gets_nowhere : Phase → Phase → Lap → Bool
gets_nowhere from to lap = ends_lap from to && nat_le lap.before (with_block (takes_block from to) lap).taken

-- the same for a row that has a phase
abbrev pub nowhere_between : Option Phase → Option Phase → Lap → Bool
nowhere_between (Some from) (Some to) lap = gets_nowhere from to lap
nowhere_between (Some from) None lap = false
nowhere_between None to lap = false

-- ---- of a list of meters, by their places

abbrev pub laps_of : Laps → List Lap
laps_of laps = laps.items.items

-- the lap of the row of the meter at this place
abbrev pub lap_in : List Lap → ℕ → Lap
lap_in laps place = unwrap_or (slice_get laps place) no_lap

-- the laps once an answer led that row from one phase to another
abbrev pub laps_gone : ℕ → ℕ → Option Phase → Option Phase → List Lap → List Lap
laps_gone place now from to laps = slice_set laps place (lap_between now from to (lap_in laps place))

-- the row of the meter at this place doesn't rest at this time
abbrev pub IsRestedIn : List Lap → ℕ → ℕ → Type 0
IsRestedIn laps now place = (lap_in laps place).until ≤ now
