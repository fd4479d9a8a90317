-- Public vocabulary: what a command that runs a script says by each fault, what it did until then, and the fault that each of its errors is.
use Rattle.std.specs.Prelude.{◌≡◌, ◌≢◌, ℕ, IsTrue, List, Option, is_some}
use Rattle.std.specs.Io.KnownBytes.{Keeps}
use Rattle.fw_faults.specs.declared.fault.Fault.{Fault}
use Rattle.fw_faults.specs.declared.fault.Fault.TheVariants as fault
use Rattle.fw_faults.specs.Reading.{ReadsUntil}
use Rattle.fw_script.specs.Script.{IsBadLine}
use Rattle.fw_script.specs.declared.error.FatesError.{FatesError}
use Rattle.fw_script.specs.declared.error.FatesError.TheVariants as fates
use Rattle.fw_workers.specs.Deals.{AreWorkers}
use Rattle.fw_cli.specs.Rehearsing.{IsBarredIn}
use Rattle.fw_cli.specs.Replaying.{MakesNone, MakesOne, ReadsOne}
use Rattle.fw_cli.specs.declared.live.LiveError.{LiveError}
use Rattle.fw_cli.specs.declared.live.LiveError.TheVariants as live
use Rattle.fw_cli.specs.declared.rehearse.RehearsalError.{RehearsalError}
use Rattle.fw_cli.specs.declared.rehearse.RehearsalError.TheVariants as rehearsal
use Rattle.fw_cli.specs.declared.replay.ReplayingError.{ReplayingError}
use Rattle.fw_cli.specs.declared.replay.ReplayingError.TheVariants as replay

-- The command ends by this fault. A bad line, a bad setup and an event that is refused are those of the script that was read; IsUnmade says
-- of which input the setup is bad, and MayWant for what memory may be wanted. A capture fails only if one is asked for, and once a script
-- was run. How far the reading was is said, and that nothing was written before, nor, where the capture doesn't fail, captured.
pub record EndsBy {C : Type 0} (MayWant : Type 0) (IsUnmade : List ℕ → Type 0) (before after : Option (List ℕ)) (capture captured : Option C)
    (first last : Option (List ℕ)) (ended : Fault) : Type 0 where
  pub bad_line : (number : ℕ) → ended ≡ fault.BadLine number → ReadsOne before after (λ input. IsBadLine input number)
  pub bad_setup : ended ≡ fault.BadSetup → ReadsOne before after IsUnmade
  pub event : ended ≡ fault.Event → ReadsOne before after IsBarredIn
  pub memory : ended ≡ fault.OutOfMemory → MayWant
  pub capture_fault : ended ≡ fault.CaptureFault → IsTrue (is_some capture) × ReadsOne before after MakesOne
  pub reading : ReadsUntil ended before after
  pub silent : ended ≢ fault.Output → Keeps first last
  pub uncaptured : ended ≢ fault.Output → ended ≢ fault.CaptureFault → captured ≡ capture

-- of this input no world can be made, where the workers are a number of workers
abbrev pub MakesNoneFor : ℕ → List ℕ → Type 0
MakesNoneFor workers input = AreWorkers workers → MakesNone input

-- the fault that says why letters are no fates
abbrev pub fault_of_fates : FatesError → Fault
fault_of_fates fates.BadFates = fault.BadFates
fault_of_fates fates.OutOfMemory = fault.OutOfMemory

-- the fault that says why `replay` ended early
abbrev pub fault_of_replay : ReplayingError → Fault
fault_of_replay replay.BadFates = fault.BadFates
fault_of_replay replay.Input = fault.Input
fault_of_replay replay.TooMuchInput = fault.TooMuchInput
fault_of_replay (replay.BadLine number) = fault.BadLine number
fault_of_replay replay.BadSetup = fault.BadSetup
fault_of_replay replay.CaptureFault = fault.CaptureFault
fault_of_replay replay.Output = fault.Output
fault_of_replay replay.OutOfMemory = fault.OutOfMemory

-- the fault that says why `rehearse` did
abbrev pub fault_of_rehearsal : RehearsalError → Fault
fault_of_rehearsal rehearsal.BadFates = fault.BadFates
fault_of_rehearsal rehearsal.Input = fault.Input
fault_of_rehearsal rehearsal.TooMuchInput = fault.TooMuchInput
fault_of_rehearsal (rehearsal.BadLine number) = fault.BadLine number
fault_of_rehearsal rehearsal.BadSetup = fault.BadSetup
fault_of_rehearsal rehearsal.Event = fault.Event
fault_of_rehearsal rehearsal.Mismatch = fault.Mismatch
fault_of_rehearsal rehearsal.ThreadRefused = fault.ThreadRefused
fault_of_rehearsal rehearsal.CaptureFault = fault.CaptureFault
fault_of_rehearsal rehearsal.Output = fault.Output
fault_of_rehearsal rehearsal.OutOfMemory = fault.OutOfMemory

-- the fault that says why `live` did
abbrev pub fault_of_live : LiveError → Fault
fault_of_live live.Input = fault.Input
fault_of_live live.TooMuchInput = fault.TooMuchInput
fault_of_live (live.BadLine number) = fault.BadLine number
fault_of_live live.BadSetup = fault.BadSetup
fault_of_live live.Event = fault.Event
fault_of_live live.Mismatch = fault.Mismatch
fault_of_live live.ThreadRefused = fault.ThreadRefused
fault_of_live live.Socket = fault.Socket
fault_of_live live.CaptureFault = fault.CaptureFault
fault_of_live live.Output = fault.Output
fault_of_live live.OutOfMemory = fault.OutOfMemory
