-- Public vocabulary: what the commands `rehearse` and `live` tell of a script, and what they do to its reader and its writer, where the
-- bytes that these hold are known.
use Rattle.std.specs.Prelude.{◌≡◌, ◌⊎◌, ℕ, Bool, List, ◌++◌, Option}
use Rattle.std.specs.Io.KnownBytes.{Appends, Keeps}
use Rattle.fw_world.specs.declared.event.Event.{Event as Given}
use Rattle.fw_world.specs.declared.setup.Setup.{Setup}
use Rattle.fw_world.specs.Runs.{events_of}
use Rattle.fw_world.specs.State.{State}
use Rattle.fw_world.specs.Step.{Event}
use Rattle.fw_accounts.specs.Accounts.{AreNumbered, IsAccounted}
use Rattle.fw_workers.specs.Refusals.{IsBarred}
use Rattle.fw_air.specs.Events.{Receipt}
use Rattle.fw_cli.specs.declared.live.LiveOptions.{LiveOptions}
use Rattle.fw_cli.specs.declared.rehearse.RehearseOptions.{RehearseOptions}
use Rattle.fw_cli.specs.Capturing.{CapturesIf}
use Rattle.fw_script.specs.Fates.{SpellsSome}
use Rattle.fw_faults.specs.Reading.{ReadsAll}
use Rattle.fw_cli.specs.Replaying.{MayWantFor, TellsTraceIf}
use Rattle.fw_report.specs.Report.{report_of, board_line}
use Rattle.fw_script.specs.Script.{SpellsScript, script_of}
use Rattle.fw_report.specs.Trace.{TellsTrace}

-- The trace of the run of which these are the receipts was appended.
abbrev pub TracesWorkers : Setup → List Event → State → List (List Receipt) → List ℕ → List ℕ → Type 0
TracesWorkers setup given world receipts before after =
    (events : List Event) → AreNumbered given events receipts
    → (trace : List ℕ) × TellsTrace setup events world.sent trace × (after ≡ before ++ trace)

-- Of the run of which these are the receipts the text is the trace, if it is asked for, the report of its world, and the line of the board.
abbrev pub TellsOfWorkers : Bool → Setup → List Event → State → ℕ → List (List Receipt) → List ℕ → Type 0
TellsOfWorkers trace setup given world board receipts text =
    (events : List Event) → AreNumbered given events receipts
    → (lines : List ℕ) × TellsTraceIf trace setup events world.sent lines × (text ≡ lines ++ (report_of setup world ++ board_line board))

-- Workers made this number of rounds after these events, and are accounted for, with this world. The text is the trace of all events, where
-- it is asked for, then the report of their world, and the line of their board.
pub record TellsRehearsal (trace : Bool) (rounds workers : ℕ) (setup : Setup) (events : List Given) (world : State) (text : List ℕ) : Type 0 where
  pub board : ℕ
  pub receipts : List (List Receipt)
  pub accounted : IsAccounted setup (events_of events) rounds workers world board receipts
  pub lines : List ℕ
  pub traced : TellsTraceIf trace setup accounted.events world.sent lines
  pub told : text ≡ lines ++ (report_of setup world ++ board_line board)

-- The input is a script, and the text tells of its rehearsal, which led to this world.
pub record RehearsesScript (trace : Bool) (rounds workers : ℕ) (input : List ℕ) (world : State) (text : List ℕ) : Type 0 where
  pub setup : Setup
  pub events : List Given
  pub spelled : SpellsScript input (script_of setup events)
  pub tells : TellsRehearsal trace rounds workers setup events world text

-- The input is a script, and one of its events is refused, and not because it is out of memory.
abbrev pub IsBarredIn : List ℕ → Type 0
IsBarredIn input =
    (setup : Setup) × (events : List Given) × (number : ℕ) × SpellsScript input (script_of setup events) × IsBarred setup events number

-- All input was read, and it is this script.
pub record ReadsScript (before after : Option (List ℕ)) (setup : Setup) (events : List Given) : Type 0 where
  pub input : List ℕ
  pub read : ReadsAll before after input
  pub spelled : SpellsScript input (script_of setup events)

-- All input was read, and the report of it was written, and the capture of what was sent, if it is asked for.
pub record WritesRehearsal (trace : Bool) (rounds workers : ℕ) (before after : Option (List ℕ)) (uncaptured captured : Option (Option (List ℕ)))
    (first last : Option (List ℕ)) : Type 0 where
  pub input : List ℕ
  pub world : State
  pub text : List ℕ
  pub read : ReadsAll before after input
  pub rehearses : RehearsesScript trace rounds workers input world text
  pub captures : CapturesIf uncaptured captured world.sent
  pub written : Appends first last text

abbrev pub Rehearses : RehearseOptions → Option (List ℕ) → Option (List ℕ) → Option (Option (List ℕ)) → Option (Option (List ℕ))
    → Option (List ℕ) → Option (List ℕ) → Type 0
Rehearses options before after uncaptured captured first last =
    WritesRehearsal options.trace options.rounds.rounds options.workers before after uncaptured captured first last

abbrev pub RunsLive : LiveOptions → Option (List ℕ) → Option (List ℕ) → Option (Option (List ℕ)) → Option (Option (List ℕ))
    → Option (List ℕ) → Option (List ℕ) → Type 0
RunsLive options before after uncaptured captured first last =
    WritesRehearsal options.trace options.rounds options.workers before after uncaptured captured first last

-- Memory may be wanted for fates that their letters spell, before anything is read, and for what a replay may want it.
abbrev pub MayWantToRehearse : RehearseOptions → Option (List ℕ) → Option (List ℕ) → Type 0
MayWantToRehearse options before after = (SpellsSome options.rounds.fates.now × Keeps before after) ⊎ MayWantFor before after
