-- What ended a trace, what that is about, and why it is refused.
use Rattle.std.specs.Prelude.{◌≡◌, ℕ, List, ◌++◌, Option, None, Some, codes}
use Rattle.std.specs.Option.{option_map}
use Rattle.fw_disk.specs.declared.reason.Reason.{Reason}
use Rattle.fw_faults.specs.declared.fault.Fault.{Fault}
use Rattle.fw_faults.specs.declared.fault.Fault.TheVariants as fault
use Rattle.fw_key_files.specs.declared.error.KeyFileError.{KeyFileError}
use Rattle.fw_key_files.specs.declared.error.KeyFileError.TheVariants as key_file
use Rattle.fw_cli.specs.Tracing.{fault_of_trace}
use Rattle.fw_cli.specs.declared.trace.TraceError.{TraceError}
use Rattle.fw_cli.specs.declared.trace.TraceError.TheVariants as trace
use Rattle.dlmsfw.specs.Refusals.{reason_told}
use Rattle.dlmsfw.specs.declared.refusal.Refusal.{Refusal}
use Rattle.dlmsfw.specs.declared.trace_places.TraceFault.{TraceFault}
use Rattle.dlmsfw.specs.declared.trace_places.TraceFault.TheVariants as ended
use Rattle.dlmsfw.specs.declared.trace_places.TracePlace.{TracePlace}
use Rattle.dlmsfw.specs.declared.trace_places.TracePlace.TheVariants.{Capture, Keys, Plain}
use Rattle.dlmsfw.specs.declared.trace_places.TracePlaces.{TracePlaces}

-- the fault that says why a key file isn't read
abbrev pub fault_of_key_file : KeyFileError → Fault
fault_of_key_file key_file.KeysFault = fault.KeysFault
fault_of_key_file key_file.KeysReadable = fault.KeysReadable
fault_of_key_file (key_file.BadKeys line why) = fault.BadKeys line why
fault_of_key_file key_file.NoRandomness = fault.NoRandomness
fault_of_key_file key_file.OutOfMemory = fault.OutOfMemory

-- the fault that it is
abbrev pub trace_fault_of : TraceFault → Fault
trace_fault_of (ended.Unopened reason) = fault.CaptureFault
trace_fault_of (ended.Keys error) = fault_of_key_file error
trace_fault_of (ended.Ended error) = fault_of_trace error

-- the writer failed
abbrev pub IsOfOutput : TraceFault → Type 0
IsOfOutput (ended.Ended error) = error ≡ trace.Output
IsOfOutput other = ⊥

-- it comes once the keys are there
abbrev pub ComesAfterKeys : TraceFault → Type 0
ComesAfterKeys (ended.Keys error) = ⊥
ComesAfterKeys other = Unit {0}

-- the path of a file, behind the option that names it
abbrev pub trace_place_text : TracePlace → List ℕ
trace_place_text (Capture file) = file.now
trace_place_text (Keys file) = codes "--keys " ++ file.now
trace_place_text (Plain file) = codes "--plain " ++ file.now

-- a key file that isn't read
abbrev pub key_file_in : KeyFileError → TracePlaces → Option TracePlace
key_file_in key_file.KeysFault places = option_map Keys places.keys
key_file_in key_file.KeysReadable places = option_map Keys places.keys
key_file_in (key_file.BadKeys line why) places = option_map Keys places.keys
key_file_in error places = None

-- A read that fails is of the capture, and a capture that can't be made or written is that in plain words.
abbrev pub trace_place_in : TraceError → TracePlaces → Option TracePlace
trace_place_in trace.Input places = option_map Capture places.capture
trace_place_in trace.CaptureFault places = option_map Plain places.plain
trace_place_in error places = None

abbrev pub trace_place_of : TraceFault → TracePlaces → Option TracePlace
trace_place_of (ended.Unopened reason) places = option_map Capture places.capture
trace_place_of (ended.Keys error) places = key_file_in error places
trace_place_of (ended.Ended error) places = trace_place_in error places

-- What is told of a file is the reason that came with the fault, or nothing if none did; but then the system may be asked why the capture
-- can't be read.
abbrev pub TellsTraceReason : Option TracePlace → Option Reason → Option Refusal → Type 0
TellsTraceReason None reason told = told ≡ None
TellsTraceReason (Some (Capture file)) None told = Unit {0}
TellsTraceReason (Some place) reason told = told ≡ reason_told reason
