-- For private clauses alone: no public clause cites it.
use Rattle.std.specs.Prelude.{◌≡◌, ℕ, List, Option}
use Rattle.std.specs.Option.{option_map}
use Rattle.fw_capture.specs.declared.fault.CaptureFault.TheVariants.{CutPacket}
use Rattle.fw_dissect.specs.declared.error.DissectError.{DissectError}
use Rattle.fw_dissect.specs.declared.error.DissectError.TheVariants as dissect
use Rattle.fw_faults.specs.declared.fault.Fault.{Fault}
use Rattle.fw_faults.specs.declared.fault.Fault.TheVariants as fault
use Rattle.fw_host.specs.declared.error.ListError.{ListError}
use Rattle.fw_host.specs.declared.error.ListError.TheVariants as list
use Rattle.fw_kept.specs.declared.error.KeptError.{KeptError}
use Rattle.fw_kept.specs.declared.error.KeptError.TheVariants as kept
use Rattle.fw_world.specs.declared.event.Event.{Event as Given}
use Rattle.fw_world.specs.declared.setup.Setup.{Setup}
use Rattle.fw_world.specs.Setup.{IsSetup}
use Rattle.fw_workers.specs.declared.error.RehearseError.{RehearseError}
use Rattle.fw_workers.specs.declared.error.RehearseError.TheVariants as workers
use Rattle.fw_workers.specs.Deals.{AreWorkers}
use Rattle.fw_workers.specs.Refusals.{IsBarred}
use Rattle.fw_cli.specs.declared.capture.RunCaptureError.{RunCaptureError}
use Rattle.fw_cli.specs.declared.capture.RunCaptureError.TheVariants as capture
use Rattle.fw_cli.specs.declared.error.FileError.{FileError}
use Rattle.fw_cli.specs.declared.error.FileError.TheVariants as file
use Rattle.fw_cli.specs.declared.error.ListFileError.{ListFileError}
use Rattle.fw_cli.specs.declared.error.ListFileError.TheVariants as list_file
use Rattle.fw_cli.specs.declared.give_up.CommitError.{CommitError}
use Rattle.fw_cli.specs.declared.give_up.CommitError.TheVariants as commit
use Rattle.fw_cli.specs.declared.give_up.GiveUpError.{GiveUpError}
use Rattle.fw_cli.specs.declared.give_up.GiveUpError.TheVariants as give_up
use Rattle.fw_cli.specs.declared.replay.Air.{Air}
use Rattle.fw_cli.specs.declared.trace.TraceError.{TraceError}
use Rattle.fw_cli.specs.declared.trace.TraceError.TheVariants as trace
use Rattle.fw_cli.specs.declared.workers.ScriptInputError.{ScriptInputError}
use Rattle.fw_cli.specs.declared.workers.ScriptInputError.TheVariants as script
use Rattle.fw_cli.specs.Replaying.{FatedRounds}

-- the rounds and their fates, if there is air
abbrev pub rounds_in : Option Air → Option FatedRounds
rounds_in air = option_map (λ (a : Air). record { rounds = a.rounds; fates = a.fates.items }) air

-- why no list is read from a file that isn't read
abbrev pub of_file : FileError → ListFileError
of_file file.Unread = list_file.ListFault
of_file file.TooLong = list_file.ListFault
of_file file.OutOfMemory = list_file.OutOfMemory

-- why none is read from one whose text is none
abbrev pub of_list : ListError → ListFileError
of_list (list.BadList line) = list_file.BadList line
of_list list.OutOfMemory = list_file.OutOfMemory

-- why no rows are given up in an open book, for what its commit is refused for: the book itself refuses none
abbrev pub commit_error : KeptError → CommitError
commit_error (kept.Refused refusal) = commit.BookFault
commit_error kept.Full = commit.Full
commit_error kept.BookFault = commit.BookFault
commit_error kept.OutOfMemory = commit.OutOfMemory

-- why the command ended early then
abbrev pub give_up_of_commit : CommitError → GiveUpError
give_up_of_commit commit.Full = give_up.Full
give_up_of_commit commit.BookFault = give_up.BookFault
give_up_of_commit commit.OutOfMemory = give_up.OutOfMemory

-- the fault that says why no list is read from a file
abbrev pub fault_of_list_file : ListFileError → Fault
fault_of_list_file list_file.ListFault = fault.ListFault
fault_of_list_file (list_file.BadList line) = fault.BadList line
fault_of_list_file list_file.OutOfMemory = fault.OutOfMemory

-- the fault that says why no script is read
abbrev pub fault_of_script_input : ScriptInputError → Fault
fault_of_script_input script.Input = fault.Input
fault_of_script_input script.TooMuchInput = fault.TooMuchInput
fault_of_script_input (script.BadLine number) = fault.BadLine number
fault_of_script_input script.OutOfMemory = fault.OutOfMemory

-- the fault that says why the capture of a run isn't written
abbrev pub fault_of_run_capture : RunCaptureError → Fault
fault_of_run_capture capture.CaptureFault = fault.CaptureFault
fault_of_run_capture capture.OutOfMemory = fault.OutOfMemory

-- the fault that says why workers have no report
abbrev pub fault_of_workers : RehearseError → Fault
fault_of_workers workers.Mismatch = fault.Mismatch
fault_of_workers workers.ThreadRefused = fault.ThreadRefused
fault_of_workers (workers.Event at) = fault.Event
fault_of_workers workers.OutOfMemory = fault.OutOfMemory
fault_of_workers workers.Socket = fault.Socket
fault_of_workers workers.GateShut = fault.GateShut
fault_of_workers workers.BadSetup = fault.BadSetup

-- the faults that say why a rehearsal has no report, under a gate that never shuts
abbrev pub IsOfWorkers : Fault → Type 0
IsOfWorkers fault.Event = Unit {0}
IsOfWorkers fault.Mismatch = Unit {0}
IsOfWorkers fault.ThreadRefused = Unit {0}
IsOfWorkers fault.BadSetup = Unit {0}
IsOfWorkers fault.OutOfMemory = Unit {0}
IsOfWorkers f = ⊥

-- those that say why a live rollout has none
abbrev pub IsOfLiveWorkers : Fault → Type 0
IsOfLiveWorkers fault.Socket = Unit {0}
IsOfLiveWorkers f = IsOfWorkers f

-- why a capture isn't told up to its end, or up to its first fault
abbrev pub trace_error : DissectError → TraceError
trace_error (dissect.TooLong offset) = trace.BadCapture (record { fault = CutPacket; offset = offset })
trace_error dissect.Input = trace.Input
trace_error dissect.NoRecord = trace.CaptureFault
trace_error dissect.Plain = trace.CaptureFault
trace_error dissect.Output = trace.Output
trace_error dissect.OutOfMemory = trace.OutOfMemory

-- There is no report of workers after these events, and this fault says why. Memory is wanted only if a world can be made of the setup.
pub record HasNoReport (workers : ℕ) (setup : Setup) (events : List Given) (ended : Fault) : Type 0 where
  pub bad_setup : ended ≡ fault.BadSetup → AreWorkers workers → ¬ IsSetup setup
  pub event : ended ≡ fault.Event → (number : ℕ) × IsBarred setup events number
  pub memory : ended ≡ fault.OutOfMemory → IsSetup setup
