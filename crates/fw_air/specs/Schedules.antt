-- Public vocabulary: what a schedule answers.
use Rattle.std.specs.Prelude.{◌≡◌, ◌⊎◌, ℕ, List, ◌++◌, length, map, take, replicate, slice_get, Some}
use Rattle.fw_world.specs.declared.error.StepError.{StepError}
use Rattle.fw_world.specs.declared.error.StepError.TheVariants.{OutOfMemory}
use Rattle.fw_world.specs.declared.runs.RunError.{RunError}
use Rattle.fw_world.specs.declared.runs.RunError.TheVariants as stopped
use Rattle.fw_world.specs.declared.setup.Setup.{Setup}
use Rattle.fw_world.specs.Refusals.{IsRefused}
use Rattle.fw_world.specs.Runs.{IsUnmade}
use Rattle.fw_world.specs.Setup.{IsSetup, opening_state}
use Rattle.fw_world.specs.State.{State}
use Rattle.fw_world.specs.Step.{Event}
use Rattle.fw_air.specs.declared.fates.Fate.{Fate}
use Rattle.fw_air.specs.Queues.{RoundsHaveFates, new_queue}
use Rattle.fw_air.specs.Rounds.{AdmittedRun, OneByOne, IsRound, links}

-- The given events, and after them `rounds` rounds of the links that there are then.
pub record Schedules (setup : Setup) (given : List Event) (rounds : ℕ) (events : List Event) : Type 0 where
  pub middle : State
  pub end : State
  pub behind : List Event
  pub begins : events ≡ given ++ behind
  pub given_run : AdmittedRun (opening_state setup) given middle
  pub rounds_run : OneByOne IsRound (replicate rounds (links setup middle)) middle behind end

-- The given events, and after them N rounds of the links that there are then, on which nothing was sent. In these rounds the datagrams
-- of each link have the fates of this list, one after another, in both directions, and the list is repeated.
pub record ScheduleHasFates (setup : Setup) (given : List Event) (rounds : ℕ) (fates : List Fate) (events : List Event) : Type 0 where
  pub middle : State
  pub end : State
  pub behind : List Event
  pub begins : events ≡ given ++ behind
  pub given_run : AdmittedRun (opening_state setup) given middle
  pub rounds_run : RoundsHaveFates fates rounds (map new_queue (links setup middle)) middle behind end

-- a run over all events, none of which is refused
abbrev pub Runs : Setup → List Event → Type 0
Runs setup events = (world : State) × AdmittedRun (opening_state setup) events world

-- the event of this number is refused for this cause
pub record IsCutAt (given : List Event) (number : ℕ) (world : State) (cause : StepError) : Type 0 where
  pub event : Event
  pub there : slice_get given number ≡ Some event
  pub refused : IsRefused world event cause

-- The world is that of these events. They are the given ones before one that is refused; or they are all given ones, and maybe more after
-- them, and memory ran out.
abbrev pub IsCut : List Event → List Event → State → StepError → Type 0
IsCut given events world cause =
    ((events ≡ take (length events) given) × IsCutAt given (length events) world cause)
    ⊎ ((behind : List Event) × (events ≡ given ++ behind) × (cause ≡ OutOfMemory))

-- no world was made; or the world is that of `number` events
abbrev pub IsUnscheduled : Setup → List Event → RunError → Type 0
IsUnscheduled setup given (stopped.Setup error) = IsUnmade setup error
IsUnscheduled setup given (stopped.Event number world cause) =
    (events : List Event) × (length events ≡ number) × AdmittedRun (opening_state setup) events world × IsCut given events world cause

-- an event is refused only in a world that could be made
abbrev pub IsOfWorld : Setup → RunError → Type 0
IsOfWorld setup (stopped.Setup error) = Unit {0}
IsOfWorld setup (stopped.Event number world cause) = IsSetup setup
