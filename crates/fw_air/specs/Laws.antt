-- Public vocabulary: the laws of schedules. They speak of definitions alone.
use Rattle.std.specs.Prelude.{◌≡◌, ◌≤◌, ℕ, List, length}
use Rattle.fw_world.specs.declared.error.StepError.{StepError}
use Rattle.fw_world.specs.declared.error.StepError.TheVariants.{OutOfMemory}
use Rattle.fw_world.specs.declared.event.Event.{Event as Given}
use Rattle.fw_world.specs.declared.runs.RunError.TheVariants as stopped
use Rattle.fw_world.specs.declared.setup.Setup.{Setup}
use Rattle.fw_world.specs.Runs.{IsStopped, events_of}
use Rattle.fw_world.specs.Setup.{IsSetup, opening_state}
use Rattle.fw_world.specs.State.{State, StateRun}
use Rattle.fw_world.specs.Step.{Event}
use Rattle.fw_air.specs.Rounds.{AdmittedRun}
use Rattle.fw_air.specs.Schedules.{Schedules}
use Rattle.fw_air.specs.Ticks.{IsLink, ticks}

-- after the given events each link has as many ticks as there are rounds, and any other two numbers have none
abbrev pub TicksEach : Type 0
TicksEach =
    (setup : Setup) (given : List Event) (rounds : ℕ) (events : List Event) (s : Schedules setup given rounds events) → IsSetup setup
    → (head meter : ℕ)
    → (IsLink setup s.middle head meter → ticks head meter s.behind ≡ rounds)
    × (¬ IsLink setup s.middle head meter → ticks head meter s.behind ≡ 0)

-- each run over a schedule ends in the world of the run in which no event is refused
abbrev pub OneWorld : Type 0
OneWorld =
    (setup : Setup) (given : List Event) (rounds : ℕ) (events : List Event) (s : Schedules setup given rounds events)
    → (world : State) → StateRun (opening_state setup) events world → world ≡ s.end

-- a run over a schedule is stopped where it is out of memory, and nowhere else
abbrev pub NoneRefused : Type 0
NoneRefused =
    (setup : Setup) (given : List Event) (rounds : ℕ) (events : List Given) → Schedules setup given rounds (events_of events)
    → (number : ℕ) (world : State) (cause : StepError) → IsStopped setup events (stopped.Event number world cause) → cause ≡ OutOfMemory

-- what was sent stays, in a run in which no event is refused
abbrev pub SentGrows : Type 0
SentGrows = (old new : State) (events : List Event) → AdmittedRun old events new → length old.sent ≤ length new.sent
