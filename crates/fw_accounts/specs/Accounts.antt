-- Public vocabulary: when a run of workers is accounted for.
use Rattle.std.specs.Prelude.{◌≡◌, ℕ, ◌+◌, ◌%◌, ◌==◌, ◌<◌, List, [], ◌∷◌, ◌++◌, drop, length, map, count_by, All, slice_get, slice_index_or, Some, if◌then◌else◌}
use Rattle.std.specs.List.{flat_map}
use Rattle.std.specs.List.Sorted.{IsPermutation}
use Rattle.fw_world.specs.declared.setup.Setup.{Setup}
use Rattle.fw_world.specs.Setup.{opening_state}
use Rattle.fw_world.specs.State.{State, StateRun}
use Rattle.fw_world.specs.Done.{done_rows}
use Rattle.fw_world.specs.Step.{Event}
use Rattle.fw_air.specs.Logs.{Entry}
use Rattle.fw_air.specs.Rounds.{Link, links}
use Rattle.fw_air.specs.Ticks.{is_tick}
use Rattle.fw_air.specs.Events.{Receipt}

-- receipts for these events, numbered from n on
abbrev pub numbered : ℕ → List Event → List Receipt
numbered n [] = []
numbered n (event ∷ events) = (record { number = n; event = event }) ∷ numbered (n + 1) events

abbrev pub all_of : List (List Receipt) → List Receipt
all_of receipts = flat_map (λ of_worker. of_worker) receipts

-- the numbers rise
abbrev pub IsRising : List Receipt → Type 0
IsRising receipts =
    (k : ℕ) (d : Receipt) → k + 1 < length receipts → (slice_index_or receipts k d).number < (slice_index_or receipts (k + 1) d).number

-- how often these receipts say that the head end of this number ticked the meter of that one
abbrev pub ticks_of : ℕ → ℕ → List Receipt → ℕ
ticks_of head meter receipts = count_by (λ (receipt : Receipt). is_tick head meter receipt.event) receipts

-- Link j is dealt to worker j modulo the number of workers. A worker makes as many ticks of a link as there are rounds if the link is dealt
-- to it, and none of any other link.
abbrev pub its_ticks : ℕ → ℕ → ℕ → ℕ → ℕ
its_ticks rounds workers worker j = if j % workers == worker then rounds else 0

abbrev pub HasItsTicks : List Link → ℕ → ℕ → ℕ → List Receipt → Type 0
HasItsTicks links rounds workers worker receipts =
    (j : ℕ) (link : Link) → slice_get links j ≡ Some link
    → ticks_of link.head link.meter receipts ≡ its_ticks rounds workers worker j

abbrev pub AreDealt : List Link → ℕ → ℕ → List (List Receipt) → Type 0
AreDealt links rounds workers receipts =
    (worker : ℕ) (of_worker : List Receipt) → slice_get receipts worker ≡ Some of_worker
    → HasItsTicks links rounds workers worker of_worker

-- The events are the given ones, and after them those of the receipts in the order of their numbers, each number once.
pub record AreNumbered (given events : List Event) (receipts : List (List Receipt)) : Type 0 where
  pub made : List Event
  pub events_are : events ≡ given ++ made
  pub each_once : IsPermutation (all_of receipts) (numbered (length given) made)

-- These are the events of a record with these receipts, of which there is one at most.
abbrev pub IsRecordOf : List Event → List (List Receipt) → List Event → Type 0
IsRecordOf given receipts events = (others : List Event) → AreNumbered given others receipts → others ≡ events

-- The events of a log that begins with the given ones: these, each once, and after them those of the entries that come after theirs.
abbrev pub recorded : List Event → List Entry → List Event
recorded given entries = given ++ map (λ (entry : Entry). entry.event) (drop (length given) entries)

-- What is accounted for is this log and no other: the world is that of a run over its events, and the receipts are those of its
-- entries after the given ones, each number once.
pub record IsOfLog (setup : Setup) (given : List Event) (entries : List Entry) (world : State) (receipts : List (List Receipt)) : Type 0 where
  pub run : StateRun (opening_state setup) (recorded given entries) world
  pub numbered_are : AreNumbered given (recorded given entries) receipts

-- A run of workers is accounted for: what each of them made is in one record, in which each link has all of its rounds, by the worker
-- that it was dealt to; the world at the end is that of a run over this record; and the board has the number of rows that are done.
pub record IsAccounted (setup : Setup) (given : List Event) (rounds workers : ℕ) (world : State) (board : ℕ) (receipts : List (List Receipt)) : Type 0 where
  pub events : List Event
  pub workers_are : length receipts ≡ workers
  pub numbered_are : AreNumbered given events receipts
  pub rising : All IsRising receipts
  pub dealt : AreDealt (links setup world) rounds workers receipts
  pub run : StateRun (opening_state setup) events world
  pub board_is : board ≡ done_rows setup world
