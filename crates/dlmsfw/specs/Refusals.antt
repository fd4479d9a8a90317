-- Why an address or a file is refused.
use Rattle.std.specs.Prelude.{Option, None, Some}
use Rattle.std.specs.Option.{option_map}
use Rattle.std.specs.declared.io.ErrorKind.{ErrorKind}
use Rattle.std.specs.declared.io.ErrorKind.TheVariants.{AddrInUse, AddrNotAvailable, PermissionDenied}
use Rattle.fw_cli.specs.declared.input_cause.InputCause.{InputCause}
use Rattle.fw_disk.specs.declared.cause.Cause.TheVariants.{NoRight}
use Rattle.fw_disk.specs.declared.reason.Reason.{Reason}
use Rattle.dlmsfw.specs.declared.refusal.Refusal.{Refusal}
use Rattle.dlmsfw.specs.declared.refusal.Refusal.TheVariants.{InUse, NoAddress, Other, File, Input}

-- why the system refuses the address that gave an error of this kind
abbrev pub refusal_of : ErrorKind → Refusal
refusal_of AddrInUse = InUse
refusal_of AddrNotAvailable = NoAddress
refusal_of PermissionDenied = File NoRight
refusal_of kind = Other kind

-- why a file was refused, if a reason came with its fault
abbrev pub reason_told : Option Reason → Option Refusal
reason_told reason = option_map (λ (r : Reason). File r.cause) reason

-- why what was to be done is refused, if the list or the book shows it
abbrev pub input_told : Option InputCause → Option Refusal
input_told input = option_map Input input

-- why a book is refused: the reason that came with the fault, and without one what the book shows
abbrev pub book_told : Option Reason → Option InputCause → Option Refusal
book_told (Some reason) input = Some (File reason.cause)
book_told None input = input_told input
