-- Public vocabulary: laws of what a head end does. They speak of definitions alone.
use Rattle.std.specs.Prelude.{◌≡◌, ℕ, ◌+◌, ◌<◌, ◌≤◌, max, true, false, List, [], Contains}
use Rattle.std.specs.declared.net.socket_addr.SocketAddr.{SocketAddr}
use Rattle.fw_book.specs.declared.phase.Phase.{Phase}
use Rattle.fw_client.specs.Ask as ask
use Rattle.fw_head.specs.Phase.{activates}
use Rattle.fw_head.specs.Row.{Row, tick_asks}
use Rattle.fw_rollout.specs.declared.link.Listed.{Listed}
use Rattle.fw_rollout.specs.Leading.{IsListed, Leader, Leading, Step, sends}
use Rattle.fw_rollout.specs.declared.laps.Lap.{Lap}
use Rattle.fw_rollout.specs.Laps.{ends_lap, lap_after, takes_block, with_block}
use Rattle.fw_rollout.specs.Plans.{with_meters}
use Rattle.fw_rollout.specs.Timing.{longest_wait}

-- a head end sends to addresses of its list alone
abbrev pub AsksListed : Type 0
AsksListed =
    (start now : Leader) (steps : List Step) (to : SocketAddr) (bytes : List ℕ) → start.going ≡ [] → Leading start steps now
    → Contains steps (sends to bytes) → (meter : ℕ) × IsListed start meter to

-- each meter of the first list is in the second, at its address
abbrev pub IsWithin : List Listed → List Listed → Type 0
IsWithin few all = (at : Listed) → Contains few at → Contains all at

-- What a head end does that asks some of the meters of a list is what one may do that asks all of them. So a rollout that goes from one wave
-- to the next is one history of the head end with the whole list.
abbrev pub ShorterListsLead : Type 0
ShorterListsLead =
    (start now : Leader) (steps : List Step) (all : List Listed) → IsWithin start.meters all → Leading start steps now
    → Leading (with_meters all start) steps (with_meters all now)

-- However many laps of a row get nowhere, an answer that comes at this time lets it rest a minute at most from then on.
abbrev pub RestsAreShort : Type 0
RestsAreShort = (now : ℕ) (from to : Phase) (lap : Lap) → (lap_after now from to lap).until ≤ max lap.until (now + longest_wait)

-- A lap in which the meter took fewer blocks than in the one before lets it rest no more.
abbrev pub ShorterLapsGoOn : Type 0
ShorterLapsGoOn =
    (now : ℕ) (from to : Phase) (lap : Lap) → ends_lap from to ≡ true → (with_block (takes_block from to) lap).taken < lap.before
    → (lap_after now from to lap).until ≡ 0

-- A row that doesn't activate never asks its meter to activate the image: what the window doesn't hold back is something else.
abbrev pub OthersNeverActivate : Type 0
OthersNeverActivate =
    (row : Row) (image : List ℕ) (width : ℕ) → activates row.stage ≡ false → ¬ Contains (tick_asks row image width) ask.activate
