-- Public vocabulary: the laws of the world. They speak of definitions alone.
use Rattle.std.specs.Prelude.{◌≡◌, ℕ, Bool, not, ◌&&◌, ◌⊎◌, List, [], ◌∷◌, ◌++◌, length, Some, slice_get, is_some}
use Rattle.fw_names.specs.Name.{Campaign}
use Rattle.fw_world.specs.declared.datagram.Direction.TheVariants.{ToHead}
use Rattle.fw_world.specs.World.{Datagram, World}
use Rattle.fw_world.specs.declared.setup.Setup.{Setup}
use Rattle.fw_world.specs.Setup.{IsSetup, opening_state}
use Rattle.fw_world.specs.State.{State, head_at, meter_at, AreAddressed, IsState, StateStep, StateRun, world_of}
use Rattle.fw_world.specs.Step.{Event, deliver, IsOpening, WorldStep, Run}
use Rattle.fw_world.specs.Done.{AreDoneRows, done_rows}
use Rattle.fw_world.specs.Headline.{FirstNames, IsFactoryName, IsSound, InitiatesAreOffered, NamesAreOwn, GoalsAreOffered, ActivationsAreSafe, ReleasesNeverFall}

-- what holds of each world that a run leads to, with the opening one
abbrev pub AfterEachRun : (World → World → Type 0) → Type 0
AfterEachRun P = (opening w : World) (events : List Event) → IsOpening opening → Run opening events w → P opening w

-- the world that a setup makes is an opening one
abbrev pub SetupOpens : Type 0
SetupOpens = (setup : Setup) → IsSetup setup → IsOpening (world_of (opening_state setup))

-- the parts, except the one that asks that no images collide, and what the types of the parts say of each world
pub record IsSafeWorld (IsFirst : FirstNames) (w : World) : Type 0 where
  pub sound : IsSound w
  pub initiates : InitiatesAreOffered w
  pub names : NamesAreOwn IsFirst w
  pub goals : GoalsAreOffered w
  pub activations : ActivationsAreSafe w
  pub releases : ReleasesNeverFall w

-- each step keeps it
abbrev pub EveryStepIsSafe : Type 0
EveryStepIsSafe = (old new : World) (event : Event) → WorldStep old event new → IsSafeWorld IsFactoryName old → IsSafeWorld IsFactoryName new

-- what is kept makes the steps of the world that it is
abbrev pub StateStepsAsWorld : Type 0
StateStepsAsWorld = (old new : State) (event : Event) → IsState old → StateStep old event new → WorldStep (world_of old) event (world_of new)

-- no step changes which head ends and which meters are there
abbrev pub ActorsStay : Type 0
ActorsStay =
    (old new : State) (event : Event) → StateStep old event new → (number : ℕ)
    → (is_some (head_at new number) ≡ is_some (head_at old number)) × (is_some (meter_at new number) ≡ is_some (meter_at old number))

-- if all was sent between head ends and meters that are there, each step keeps it so
abbrev pub SentStaysAddressed : Type 0
SentStaysAddressed = (old new : State) (event : Event) → StateStep old event new → AreAddressed old → AreAddressed new

-- a run goes on by a step
abbrev pub RunGoesOn : Type 0
RunGoesOn =
    (old mid new : State) (events : List Event) (event : Event) → StateRun old events mid → StateStep mid event new → StateRun old (events ++ event ∷ []) new

-- after each run from the world that a setup makes, the number of done rows is how many of them there are
abbrev pub DoneRowsAreCounted : Type 0
DoneRowsAreCounted =
    (setup : Setup) (events : List Event) (s : State) → IsSetup setup → StateRun (opening_state setup) events s
    → (rows : List (Campaign × ℕ)) × AreDoneRows (world_of s) rows × (done_rows setup s ≡ length rows)

-- ---- marks that are missing, as where a head end's book was kept without the last of them

-- a delivery of a datagram to a head end: it marks a meter done, or does nothing
abbrev pub IsToHead : List Datagram → Event → Type 0
IsToHead sent (deliver number) = (d : Datagram) × (slice_get sent number ≡ Some d) × (d.direction ≡ ToHead)
IsToHead sent event = ⊥

-- these events without some deliveries to head ends
abbrev pub AreLess : List Datagram → List Event → List Event → Type 0
AreLess sent [] less = less ≡ []
AreLess sent (event ∷ events) less =
    ((rest : List Event) × (less ≡ event ∷ rest) × AreLess sent events rest) ⊎ (IsToHead sent event × AreLess sent events less)

-- the same world, except for these marks
pub record LacksMarks (missing : Campaign → ℕ → Bool) (w less : World) : Type 0 where
  pub same : less ≡ record w { done = less.done }
  pub done : (campaign : Campaign) (meter : ℕ) → less.done campaign meter ≡ (w.done campaign meter && not (missing campaign meter))

-- whichever marks are taken out of a run, there is a run to the world without them: the deliveries that made them are taken out
abbrev pub MarksMayBeMissing : Type 0
MarksMayBeMissing =
    (opening w : World) (events : List Event) (missing : Campaign → ℕ → Bool) → IsOpening opening → Run opening events w
    → (kept : List Event) × AreLess w.sent events kept × (less : World) × Run opening kept less × LacksMarks missing w less
