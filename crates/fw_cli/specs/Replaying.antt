-- Public vocabulary: what the command `replay` tells of a script, and what it does to its reader and its writer, where the bytes that these
-- hold are known: what the reader has left before and after, and what the writer holds at first and at last.
use Rattle.std.specs.Prelude.{◌≡◌, ◌≢◌, ◌≤◌, ◌⊎◌, ℕ, Bool, true, false, List, [], ◌++◌, take, Option, Some, None}
use Rattle.std.specs.Io.KnownBytes.{Appends, Keeps}
use Rattle.fw_world.specs.declared.error.SetupError.TheVariants as unmade
use Rattle.fw_world.specs.declared.error.StepError.TheVariants.{OutOfMemory}
use Rattle.fw_world.specs.declared.event.Event.{Event as Given}
use Rattle.fw_world.specs.declared.runs.RunError.{RunError}
use Rattle.fw_world.specs.declared.runs.RunError.TheVariants as stopped
use Rattle.fw_world.specs.declared.setup.Setup.{Setup}
use Rattle.fw_world.specs.Runs.{IsStopped, events_of}
use Rattle.fw_world.specs.Setup.{IsSetup, opening_state}
use Rattle.fw_world.specs.State.{State, StateRun}
use Rattle.fw_world.specs.Step.{Event}
use Rattle.fw_world.specs.World.{Datagram}
use Rattle.fw_air.specs.declared.fates.Fate.{Fate}
use Rattle.fw_air.specs.Schedules.{IsUnscheduled, ScheduleHasFates, Schedules}
use Rattle.fw_report.specs.declared.forms.Style.{Style}
use Rattle.fw_report.specs.declared.refusal.Refusal.{Refusal}
use Rattle.fw_cli.specs.declared.replay.Ended.{Ended}
use Rattle.fw_cli.specs.declared.replay.Ended.TheVariants.{Whole, Refused}
use Rattle.fw_cli.specs.declared.replay.ReplayOptions.{ReplayOptions}
use Rattle.fw_cli.specs.declared.replay.Rounds.{Rounds}
use Rattle.fw_cli.specs.Capturing.{CapturesIf}
use Rattle.fw_script.specs.Fates.{SpellsFates, SpellsSome}
use Rattle.fw_faults.specs.Reading.{Gives, ReadsAll, max_input}
use Rattle.fw_report.specs.Forms.{report_in}
use Rattle.fw_report.specs.Trace.{TellsTrace}
use Rattle.fw_script.specs.Script.{SpellsScript, BeginsScript, script_of}

-- ---- what is written

-- the trace of what was sent, if it is asked for
abbrev pub TellsTraceIf : Bool → Setup → List Event → List Datagram → List ℕ → Type 0
TellsTraceIf true setup events sent text = TellsTrace setup events sent text
TellsTraceIf false setup events sent text = text ≡ []

-- the report of a world after these events, with the one that was refused there
abbrev pub TellsWorld : Style → Setup → List Event → State → Option Refusal → List ℕ → Type 0
TellsWorld style setup events world refusal text =
    (trace : List ℕ) × TellsTraceIf style.trace setup events world.sent trace × (text ≡ trace ++ report_in style.report setup world refusal)

-- this is the world there, and what is written of it, where the run isn't out of memory
abbrev pub TellsRefusal : Style → Setup → List Given → RunError → State → List ℕ → Type 0
TellsRefusal style setup events (stopped.Setup error) world text = ⊥
TellsRefusal style setup events (stopped.Event at there cause) world text =
    (cause ≢ OutOfMemory) × (world ≡ there)
    × TellsWorld style setup (events_of (take at events)) world (Some (record { at = at; cause = cause })) text

-- memory was wanted
abbrev pub WantsMemory : RunError → Type 0
WantsMemory (stopped.Setup error) = error ≡ unmade.OutOfMemory
WantsMemory (stopped.Event number world cause) = cause ≡ OutOfMemory

-- No world is made, or an event is refused before there is a round, and not because it is out of memory.
pub record HasNoRound (setup : Setup) (given : List Event) : Type 0 where
  pub error : RunError
  pub stopped : IsUnscheduled setup given error
  pub other : ¬ WantsMemory error

-- the rounds of each link, and the fates that the datagrams of each link have in them
pub record FatedRounds : Type 0 where
  pub rounds : ℕ
  pub fates : List Fate

-- The events are the given ones and after them these rounds, in which the datagrams have these fates.
pub record HasRounds (asked : FatedRounds) (setup : Setup) (given events : List Event) : Type 0 where
  pub schedule : Schedules setup given asked.rounds events
  pub fated : ScheduleHasFates setup given asked.rounds asked.fates events

-- the events that are run: those of the script, and after them the rounds that are asked for
abbrev pub GoesOn : Option FatedRounds → Setup → List Event → List Event → Type 0
GoesOn None setup given events = events ≡ given
GoesOn (Some asked) setup given events = HasRounds asked setup given events ⊎ ((events ≡ given) × HasNoRound setup given)

-- From a new world no event is refused, and the text tells of the world after the last one, which this is.
pub record RunsWhole (style : Style) (setup : Setup) (events : List Given) (world : State) (text : List ℕ) : Type 0 where
  pub run : StateRun (opening_state setup) (events_of events) world
  pub told : TellsWorld style setup (events_of events) world None text

-- An event is refused in this world, and the text tells so.
pub record IsRefusedIn (style : Style) (setup : Setup) (events : List Given) (world : State) (text : List ℕ) : Type 0 where
  pub error : RunError
  pub stopped : IsStopped setup events error
  pub told : TellsRefusal style setup events error world text

abbrev pub EndsSo : Ended → Style → Setup → List Given → State → List ℕ → Type 0
EndsSo Whole style setup events world text = RunsWhole style setup events world text
EndsSo Refused style setup events world text = IsRefusedIn style setup events world text

-- a world is made, and the run ends so, in this world
abbrev pub TellsRun : Style → Setup → List Given → Ended → State → List ℕ → Type 0
TellsRun style setup events ended world text = IsSetup setup × EndsSo ended style setup events world text

-- The input is a script, and its run ends so, in this world.
pub record Tells (rounds : Option FatedRounds) (style : Style) (input : List ℕ) (ended : Ended) (world : State) (text : List ℕ) : Type 0 where
  pub setup : Setup
  pub given : List Given
  pub events : List Given
  pub spelled : SpellsScript input (script_of setup given)
  pub goes_on : GoesOn rounds setup (events_of given) (events_of events)
  pub run : TellsRun style setup events ended world text

-- the input is a script of which no world can be made
abbrev pub MakesNone : List ℕ → Type 0
MakesNone input = (setup : Setup) × (given : List Given) × SpellsScript input (script_of setup given) × ¬ IsSetup setup

-- the input is a script of which a world can be made
abbrev pub MakesOne : List ℕ → Type 0
MakesOne input = (setup : Setup) × (given : List Given) × SpellsScript input (script_of setup given) × IsSetup setup

-- Memory may be wanted for a line that the script goes on with, and for the world of a script that makes one.
abbrev pub MayTakeMemory : List ℕ → Type 0
MayTakeMemory input = BeginsScript input ⊎ MakesOne input

-- ---- what the command does

-- rounds are asked for, with fates that their letters don't spell
abbrev pub HasBadFates : Option Rounds → Type 0
HasBadFates None = ⊥
HasBadFates (Some rounds) = ¬ SpellsSome rounds.fates.now

-- rounds are asked for, with fates that their letters spell
abbrev pub HasGoodFates : Option Rounds → Type 0
HasGoodFates None = ⊥
HasGoodFates (Some rounds) = SpellsSome rounds.fates.now

-- All input was read, and the report of it was written, and the capture of what was sent, if it is asked for.
pub record WritesRun (rounds : Option FatedRounds) (style : Style) (ended : Ended) (before after : Option (List ℕ))
    (uncaptured captured : Option (Option (List ℕ))) (first last : Option (List ℕ)) : Type 0 where
  pub input : List ℕ
  pub world : State
  pub text : List ℕ
  pub read : ReadsAll before after input
  pub tells : Tells rounds style input ended world text
  pub captures : CapturesIf uncaptured captured world.sent
  pub written : Appends first last text

-- the rounds that are asked for, with the fates that their letters spell
abbrev pub AreAsked : Option Rounds → Option FatedRounds → Type 0
AreAsked None rounds = rounds ≡ None
AreAsked (Some asked) rounds =
    (fates : List Fate) × SpellsFates asked.fates.now fates × (rounds ≡ Some (record { rounds = asked.rounds; fates = fates }))

abbrev pub Replays : ReplayOptions → Ended → Option (List ℕ) → Option (List ℕ) → Option (Option (List ℕ)) → Option (Option (List ℕ))
    → Option (List ℕ) → Option (List ℕ) → Type 0
Replays options ended before after uncaptured captured first last =
    (rounds : Option FatedRounds) × AreAsked options.rounds rounds
    × WritesRun rounds options.style ended before after uncaptured captured first last

-- all input was read, and P holds of it
abbrev pub ReadsOne : Option (List ℕ) → Option (List ℕ) → (List ℕ → Type 0) → Type 0
ReadsOne before after P = (input : List ℕ) × ReadsAll before after input × P input

-- Memory may be taken for the input while it is read, and after its end for what may take some.
abbrev pub MayWantFor : Option (List ℕ) → Option (List ℕ) → Type 0
MayWantFor before after = Gives before after (λ count. (1 ≤ count) × (count ≤ max_input)) ⊎ ReadsOne before after MayTakeMemory

-- the same, and for fates before anything is read
abbrev pub MayWantMemory : ReplayOptions → Option (List ℕ) → Option (List ℕ) → Type 0
MayWantMemory options before after = (HasGoodFates options.rounds × Keeps before after) ⊎ MayWantFor before after
