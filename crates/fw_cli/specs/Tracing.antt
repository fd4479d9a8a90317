-- Public vocabulary: the links of the command `trace`, which record it takes for cut, and the fault that each of its errors is.
use Rattle.std.specs.Prelude.{◌≡◌, ℕ, List, Option, Some}
use Rattle.fw_capture.specs.declared.fault.CaptureError.{CaptureError}
use Rattle.fw_capture.specs.declared.fault.CaptureFault.TheVariants.{CutPacket}
use Rattle.fw_dissect.specs.Streams.{HasLong}
use Rattle.fw_faults.specs.declared.fault.Fault.{Fault}
use Rattle.fw_faults.specs.declared.fault.Fault.TheVariants as fault
use Rattle.fw_keys.specs.KeyFiles.{SpellsHeadKeys}
use Rattle.fw_keys.specs.Links.{Links}
use Rattle.fw_seal.specs.Sealing.{Ends}
use Rattle.fw_unseal.specs.Unsealing.{both_ends}
use Rattle.fw_cli.specs.declared.trace.TraceError.{TraceError}
use Rattle.fw_cli.specs.declared.trace.TraceError.TheVariants as trace

-- some text is the key file of the head end with this number, and these are its links, as both of their ends have them
abbrev pub AreOfFile : ℕ → List Ends → Type 0
AreOfFile head links = (text : List ℕ) × (file : Links ℕ) × SpellsHeadKeys text head file × (links ≡ both_ends file.own file.entries)

-- A record that says that it has more than 64 MiB counts as cut, wherever the capture ends.
abbrev pub CountsAsCut : Option (List ℕ) → CaptureError → Type 0
CountsAsCut before error = (error.fault ≡ CutPacket) × ((capture : List ℕ) → before ≡ Some capture → HasLong capture error.offset)

-- the fault that says why a capture isn't told up to its end
abbrev pub fault_of_trace : TraceError → Fault
fault_of_trace (trace.BadCapture error) = fault.BadCapture error
fault_of_trace trace.Input = fault.Input
fault_of_trace trace.CaptureFault = fault.CaptureFault
fault_of_trace trace.Output = fault.Output
fault_of_trace trace.OutOfMemory = fault.OutOfMemory
