-- Private vocabulary: a world with the events that made it, and the steps of an audit.
use Rattle.std.specs.Prelude.{◌≡◌, ℕ, ◌+◌, ◌-◌, List, [], ◌++◌, length, map, replicate}
use Rattle.fw_head.specs.Phase.{phase_of}
use Rattle.fw_head.specs.Row.{Row}
use Rattle.fw_world.specs.declared.error.SetupError.TheVariants as unmade
use Rattle.fw_world.specs.declared.error.StepError.TheVariants as step
use Rattle.fw_world.specs.declared.runs.RunError.{RunError}
use Rattle.fw_world.specs.declared.runs.RunError.TheVariants as stopped
use Rattle.fw_world.specs.declared.setup.Setup.{Setup}
use Rattle.fw_world.specs.State.{State}
use Rattle.fw_world.specs.Step.{Event, deliver}
use Rattle.fw_air.specs.declared.audits.AuditError.{AuditError}
use Rattle.fw_air.specs.declared.audits.AuditError.TheVariants as audit
use Rattle.fw_air.specs.declared.fates.Fate.{Fate}
use Rattle.fw_air.specs.declared.links.LinkQueue.{LinkQueue}
use Rattle.fw_air.specs.Fates.{by_fates, comes, waits}
use Rattle.fw_air.specs.Links.{late_of, link_of, passed_of, queue_of}
use Rattle.fw_air.specs.Logs.{capped}
use Rattle.fw_air.specs.Queues.{RoundsHaveFates, beginning, new_queue}
use Rattle.fw_air.specs.Rounds.{AdmittedRun, OneByOne, IsRound, last_turn, links}

-- a world that events led to, and these events
pub record Recorded : Type 0 where
  pub world : State
  pub events : List Event

-- these events happened
pub record Follows (old : Recorded) (events : List Event) (new : Recorded) : Type 0 where
  pub noted : new.events ≡ old.events ++ events
  pub run : AdmittedRun old.world events new.world

-- some events happened
abbrev pub GoesOn : Recorded → Recorded → Type 0
GoesOn old new = (events : List Event) × Follows old events new

-- A round of a link began: what was late came, and the head end ticked the meter. From that number on stands what is sent in it.
pub record HasBegun (old : Recorded) (link : LinkQueue) (new : Recorded) (next : LinkQueue) (from : ℕ) : Type 0 where
  pub from_is : from ≡ length old.world.sent
  pub all : Follows old (beginning (queue_of link)) new
  pub link_stays : link_of next ≡ link_of link
  pub passed : passed_of next ≡ passed_of link
  pub late : late_of next ≡ []

-- What was sent, from one number up to another, came or waits, by its fates.
pub record HasPassed (fates : List Fate) (old : Recorded) (link : LinkQueue) (from : ℕ) (new : Recorded) (next : LinkQueue) (end : ℕ) : Type 0 where
  pub end_is : end ≡ length old.world.sent
  pub all : Follows old (map deliver (by_fates comes fates (passed_of link) from end)) new
  pub link_stays : link_of next ≡ link_of link
  pub passed : passed_of next ≡ capped (passed_of link + (end - from))
  pub waiting : late_of next ≡ late_of link ++ by_fates waits fates (passed_of link) from end

-- the meter took a turn, if it verified
abbrev pub HasTurned : Recorded → LinkQueue → Recorded → Type 0
HasTurned old link new = Follows old (last_turn old.world link.meter) new

-- `rounds` rounds happened, of the links that there were before them, with these fates
pub record MakesRounds (setup : Setup) (rounds : ℕ) (fates : List Fate) (old new : Recorded) : Type 0 where
  pub events : List Event
  pub follows : Follows old events new
  pub rounds_run : OneByOne IsRound (replicate rounds (links setup old.world)) old.world events new.world
  pub have_fates : RoundsHaveFates fates rounds (map new_queue (links setup old.world)) old.world events new.world

-- ---- audits

-- another row is of the same meter, and in the same phase
pub record IsInPhase (row other : Row) : Type 0 where
  pub meter : row.client.meter ≡ other.client.meter
  pub phase : phase_of row.stage ≡ phase_of other.stage

-- what an audit is refused for where a run was stopped
abbrev pub audit_error_of : RunError → AuditError
audit_error_of (stopped.Setup unmade.BadSetup) = audit.BadSetup
audit_error_of (stopped.Setup unmade.OutOfMemory) = audit.OutOfMemory
audit_error_of (stopped.Event number world step.OutOfMemory) = audit.OutOfMemory
audit_error_of (stopped.Event number world cause) = audit.Mismatch
