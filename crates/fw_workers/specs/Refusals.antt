-- Public vocabulary: why a rehearsal or a live rollout has no report.
use Rattle.std.specs.Prelude.{◌≢◌, ℕ, List}
use Rattle.fw_accounts.specs.declared.error.AccountError.{AccountError}
use Rattle.fw_accounts.specs.declared.error.AccountError.TheVariants as account
use Rattle.fw_head.specs.declared.error.PutError.{PutError}
use Rattle.fw_head.specs.declared.error.PutError.TheVariants as put
use Rattle.fw_world.specs.declared.error.SetupError.{SetupError}
use Rattle.fw_world.specs.declared.error.SetupError.TheVariants as unmade
use Rattle.fw_world.specs.declared.error.StepError.{StepError}
use Rattle.fw_world.specs.declared.error.StepError.TheVariants as cause
use Rattle.fw_world.specs.declared.event.Event.{Event as Given}
use Rattle.fw_world.specs.declared.runs.RunError.TheVariants as stopped
use Rattle.fw_world.specs.declared.setup.Setup.{Setup}
use Rattle.fw_world.specs.Runs.{IsStopped}
use Rattle.fw_world.specs.State.{State}
use Rattle.fw_workers.specs.declared.error.RehearseError.{RehearseError}
use Rattle.fw_workers.specs.declared.error.RehearseError.TheVariants as refused
use Rattle.fw_workers.specs.declared.error.RoundsError.{RoundsError}
use Rattle.fw_workers.specs.declared.error.RoundsError.TheVariants as unaccounted

-- why no world is made
abbrev pub of_setup : SetupError → RehearseError
of_setup unmade.BadSetup = refused.BadSetup
of_setup unmade.OutOfMemory = refused.OutOfMemory

-- why the given event of this number was not made
abbrev pub of_event : ℕ → StepError → RehearseError
of_event number cause.OutOfMemory = refused.OutOfMemory
of_event number other = refused.Event number

-- why an event of a worker was not made
abbrev pub of_step : StepError → RoundsError
of_step cause.OutOfMemory = unaccounted.OutOfMemory
of_step other = unaccounted.Mismatch

-- why head ends were not put back together
abbrev pub of_put : PutError → RoundsError
of_put put.WrongRows = unaccounted.Mismatch
of_put put.OutOfMemory = unaccounted.OutOfMemory

-- why what the workers left is not accounted for
abbrev pub of_account : AccountError → RoundsError
of_account account.Mismatch = unaccounted.Mismatch
of_account account.OutOfMemory = unaccounted.OutOfMemory

-- why there is no report of the rounds
abbrev pub of_rounds : RoundsError → RehearseError
of_rounds unaccounted.Mismatch = refused.Mismatch
of_rounds unaccounted.ThreadRefused = refused.ThreadRefused
of_rounds unaccounted.OutOfMemory = refused.OutOfMemory
of_rounds unaccounted.GateShut = refused.GateShut

-- it is refused after the given events, not for the setup or for one of them
abbrev pub IsLater : RehearseError → Type 0
IsLater refused.BadSetup = ⊥
IsLater (refused.Event number) = ⊥
IsLater other = Unit {0}

-- it comes of the rounds: of their threads, of a gate, or of what was held against the record
abbrev pub IsOfRounds : RehearseError → Type 0
IsOfRounds refused.GateShut = Unit {0}
IsOfRounds refused.Mismatch = Unit {0}
IsOfRounds refused.ThreadRefused = Unit {0}
IsOfRounds other = ⊥

-- The given event of this number, from 0 on, is refused in the world of those before it, for another cause than memory.
pub record IsBarred (setup : Setup) (events : List Given) (number : ℕ) : Type 0 where
  pub world : State
  pub reason : StepError
  pub other : reason ≢ cause.OutOfMemory
  pub stopped_is : IsStopped setup events (stopped.Event number world reason)

-- if a given event is reported, it is refused so
abbrev pub TellsOfEvent : Setup → List Given → RehearseError → Type 0
TellsOfEvent setup events (refused.Event number) = IsBarred setup events number
TellsOfEvent setup events other = Unit {0}
