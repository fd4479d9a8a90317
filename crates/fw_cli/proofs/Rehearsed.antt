-- What a command of workers did, from what it read, reported and wrote.
use Rattle.std.proofs.Common.{◌≡◌, ℕ, Bool, true, false, List, [], ◌++◌, Result, Err, inr, refl, ap, subst, sym, ◌∙◌, append_assoc}
use Rattle.std.proofs.lemmas.Result.{IfErr-at_err}
use Rattle.std.specs.Prelude.{IsTrue, Option, is_some, ◌⊎◌, ◌≢◌}
use Rattle.std.specs.Io.KnownBytes.{Appends}
use Rattle.fw_world.specs.declared.event.Event.{Event as Given}
use Rattle.fw_world.specs.declared.setup.Setup.{Setup}
use Rattle.fw_world.specs.Runs.{events_of}
use Rattle.fw_world.specs.Setup.{IsSetup}
use Rattle.fw_world.specs.State.{State}
use Rattle.fw_world.specs.Step.{Event}
use Rattle.fw_accounts.specs.Accounts.{IsAccounted}
use Rattle.fw_air.specs.Events.{Receipt}
use Rattle.fw_accounts.specs.declared.report.Report.{Report}
use Rattle.fw_workers.specs.declared.error.RehearseError.{RehearseError}
use Rattle.fw_workers.specs.declared.error.RehearseError.TheVariants as refused
use Rattle.fw_workers.specs.Beginnings.{BeginsFor}
use Rattle.fw_workers.specs.Refusals.{TellsOfEvent}
use Rattle.fw_workers.specs.Deals.{AreWorkers}
use Rattle.fw_cli.specs.Rehearsing.{ReadsScript, TellsOfWorkers, TellsRehearsal, TracesWorkers, WritesRehearsal}
use Rattle.fw_cli.specs.Capturing.{CapturesIf}
use Rattle.fw_cli.specs.Replaying.{MayWantFor}
use Rattle.fw_cli.specs.Scripts.{EndsBy, MakesNoneFor}
use Rattle.fw_faults.specs.declared.fault.Fault.{Fault}
use Rattle.fw_faults.specs.declared.fault.Fault.TheVariants as fault
use Rattle.fw_cli.specs.Private.{HasNoReport, IsOfLiveWorkers, fault_of_workers}
use Rattle.fw_cli.proofs.Scripted as Scripted
use Rattle.fw_report.specs.Report.{report_of, board_line}

-- a script was read, and the capture and the text of its rehearsal were written
pub writes : (trace : Bool) (rounds workers : ℕ) (before after : Option (List ℕ)) (uncaptured captured : Option (Option (List ℕ)))
    (first last : Option (List ℕ)) (setup : Setup) (events : List Given) (world : State) (text : List ℕ)
    → ReadsScript before after setup events → TellsRehearsal trace rounds workers setup events world text
    → CapturesIf uncaptured captured world.sent → Appends first last text
    → WritesRehearsal trace rounds workers before after uncaptured captured first last
writes trace rounds workers before after uncaptured captured first last setup events world text read tells captures written =
    record {
      input = read.input;
      world = world;
      text = text;
      read = read.read;
      rehearses = record { setup = setup; events = events; spelled = read.spelled; tells = tells };
      captures = captures;
      written = written;
    }

-- a trace, and after it the report and the line of the board
pub with_trace : (setup : Setup) (given : List Event) (world : State) (board : ℕ) (receipts : List (List Receipt)) (first traced reported text : List ℕ)
    → first ≡ [] → TracesWorkers setup given world receipts first traced → reported ≡ traced ++ report_of setup world → text ≡ reported ++ board_line board
    → TellsOfWorkers true setup given world board receipts text
with_trace setup given world board receipts first traced reported text none traces report line = λ events numbered.
    let found = traces events numbered in
    let lines = found.0 in
    let begins : traced ≡ lines = found.2 ∙ ap (λ (l : List ℕ). l ++ lines) none in
    (lines, found.1, line ∙ ap (λ (l : List ℕ). l ++ board_line board) (report ∙ ap (λ (l : List ℕ). l ++ report_of setup world) begins) ∙ append_assoc lines (report_of setup world) (board_line board))

-- no trace
pub without_trace : (setup : Setup) (given : List Event) (world : State) (board : ℕ) (receipts : List (List Receipt)) (first reported text : List ℕ)
    → first ≡ [] → reported ≡ first ++ report_of setup world → text ≡ reported ++ board_line board
    → TellsOfWorkers false setup given world board receipts text
without_trace setup given world board receipts first reported text none report line = λ events numbered. (
  [],
  refl,
  line ∙ ap (λ (l : List ℕ). l ++ board_line board) (report ∙ ap (λ (l : List ℕ). l ++ report_of setup world) none),
)

-- the text of workers who are accounted for is that of a rehearsal
pub tells : (trace : Bool) (rounds workers : ℕ) (setup : Setup) (events : List Given) (world : State) (board : ℕ) (receipts : List (List Receipt)) (text : List ℕ)
    → IsAccounted setup (events_of events) rounds workers world board receipts → TellsOfWorkers trace setup (events_of events) world board receipts text
    → TellsRehearsal trace rounds workers setup events world text
tells trace rounds workers setup events world board receipts text accounted told =
    let found = told accounted.events accounted.numbered_are in
    record {
      board = board;
      receipts = receipts;
      accounted = accounted;
      lines = found.0;
      traced = found.1;
      told = found.2;
    }

-- the script that was read has no report
pub untold : {C : Type 0} (workers : ℕ) (before after : Option (List ℕ)) (capture : Option C) (first : Option (List ℕ)) (setup : Setup) (events : List Given) (f : Fault)
    → ReadsScript before after setup events → HasNoReport workers setup events f → IsOfLiveWorkers f
    → EndsBy (MayWantFor before after) (MakesNoneFor workers) before after capture capture first first f
untold workers before after capture first setup events f read none is =
    Scripted.untold (MakesNoneFor workers) before after capture first read.input f read.read
    (λ number other. absurd (subst IsOfLiveWorkers other is))
    (λ e are. (setup, events, read.spelled, none.bad_setup e are))
    (λ e. let barred = none.event e in (setup, events, barred.0, read.spelled, barred.1))
    (λ e. inr (setup, events, read.spelled, none.memory e)) (Scripted.of_run f is)

-- a world can be made of the script that was read, and the capture of its run fails
pub uncaptured : {C : Type 0} (workers : ℕ) (before after : Option (List ℕ)) (capture captured : Option C) (first : Option (List ℕ)) (setup : Setup) (events : List Given) (f : Fault)
    → ReadsScript before after setup events → IsSetup setup → IsTrue (is_some capture) → (f ≡ fault.OutOfMemory → captured ≡ capture)
    → (f ≡ fault.OutOfMemory) ⊎ (f ≡ fault.CaptureFault)
    → EndsBy (MayWantFor before after) (MakesNoneFor workers) before after capture captured first first f
uncaptured workers before after capture captured first setup events f read made asked same faults =
    Scripted.uncaptured (MakesNoneFor workers) before after capture captured first read.input f read.read (setup, events, read.spelled, made) asked same faults

-- why there is no report of workers
by_error : (workers : ℕ) (setup : Setup) (events : List Given) (e : RehearseError) → (e ≡ refused.BadSetup → AreWorkers workers → ¬ IsSetup setup)
    → TellsOfEvent setup events e → (e ≢ refused.BadSetup → IsSetup setup) → HasNoReport workers setup events (fault_of_workers e)
by_error workers setup events refused.BadSetup none barred made = record { bad_setup = λ _. none refl; event = λ other. cc other; memory = λ other. cc other }
by_error workers setup events (refused.Event number) none barred made = record { bad_setup = λ other. cc other; event = λ _. (number, barred); memory = λ other. cc other }
by_error workers setup events refused.Mismatch none barred made = record { bad_setup = λ other. cc other; event = λ other. cc other; memory = λ other. cc other }
by_error workers setup events refused.ThreadRefused none barred made = record { bad_setup = λ other. cc other; event = λ other. cc other; memory = λ other. cc other }
by_error workers setup events refused.Socket none barred made = record { bad_setup = λ other. cc other; event = λ other. cc other; memory = λ other. cc other }
by_error workers setup events refused.GateShut none barred made = record { bad_setup = λ other. cc other; event = λ other. cc other; memory = λ other. cc other }
by_error workers setup events refused.OutOfMemory none barred made = record { bad_setup = λ other. cc other; event = λ other. cc other; memory = λ _. made (λ is. cc is) }

pub unreported : (workers : ℕ) (setup : Setup) (events : List Given) (report : Result Report RehearseError) (e : RehearseError) (f : Fault)
    → report ≡ Err e → BeginsFor setup events workers report → f ≡ fault_of_workers e → HasNoReport workers setup events f
unreported workers setup events report e f was begins gives =
    subst (HasNoReport workers setup events) (sym gives)
    (by_error workers setup events e (λ is. begins.bad_setup (was ∙ ap Err is)) (IfErr-at_err (TellsOfEvent setup events) was begins.event)
    (IfErr-at_err (λ (e : RehearseError). e ≢ refused.BadSetup → IsSetup setup) was begins.made))

-- memory is wanted for it
pub unremembered : (workers : ℕ) (setup : Setup) (events : List Given) (f : Fault) → IsSetup setup → f ≡ fault.OutOfMemory → HasNoReport workers setup events f
unremembered workers setup events f made e = record { bad_setup = λ other. cc (e, other); event = λ other. cc (e, other); memory = λ _. made }
