-- Public vocabulary: what a run answers.
use Rattle.std.specs.Prelude.{◌≡◌, List, map, take, Some, slice_get, Result, Ok, Err}
use Rattle.fw_world.specs.declared.error.SetupError.{SetupError}
use Rattle.fw_world.specs.declared.error.SetupError.TheVariants as unmade
use Rattle.fw_world.specs.declared.event.Event.{Event as Given}
use Rattle.fw_world.specs.declared.runs.RunError.{RunError}
use Rattle.fw_world.specs.declared.runs.RunError.TheVariants as stopped
use Rattle.fw_world.specs.declared.setup.Setup.{Setup}
use Rattle.fw_world.specs.Step.{Event, Run}
use Rattle.fw_world.specs.State.{State, StateRun, world_of}
use Rattle.fw_world.specs.Setup.{IsSetup, opening_state}
use Rattle.fw_world.specs.Refusals.{IsRefused}
use Rattle.fw_world.specs.View.{event_of}

abbrev pub events_of : List Given → List Event
events_of events = map event_of events

-- a world can't be made so, or memory was refused
abbrev pub IsUnmade : Setup → SetupError → Type 0
IsUnmade setup unmade.BadSetup = ¬ IsSetup setup
IsUnmade setup unmade.OutOfMemory = IsSetup setup

-- no world was made; or the world is that of the events before the one of this number, which is refused for this cause
abbrev pub IsStopped : Setup → List Given → RunError → Type 0
IsStopped setup events (stopped.Setup error) = IsUnmade setup error
IsStopped setup events (stopped.Event number world cause) =
    (event : Given) × (slice_get events number ≡ Some event) × StateRun (opening_state setup) (events_of (take number events)) world
    × IsRefused world (event_of event) cause × Run (world_of (opening_state setup)) (events_of (take number events)) (world_of world)

-- if a world was made, this holds of the one that the run ended with
abbrev pub EndsIn : Result State RunError → (State → Type 0) → Type 0
EndsIn (Ok world) P = P world
EndsIn (Err (stopped.Event number world cause)) P = P world
EndsIn (Err (stopped.Setup error)) P = Unit {0}
