-- For private clauses alone: why a call of a file failed, and why the port of a daemon is closed.
use Rattle.std.specs.Prelude.{Option, None, Some, IsTrue, is_some}
use Rattle.std.specs.Option.{option_map}
use Rattle.fw_disk.specs.declared.cause.Cause.{Cause}
use Rattle.fw_disk.specs.declared.reason.Reason.{Reason}
use Rattle.fw_disk.specs.declared.name.Name.TheVariants.{Main}
use Rattle.fw_counter.specs.declared.error.CounterError.{CounterError}
use Rattle.fw_counter.specs.declared.error.CounterError.TheVariants as counter
use Rattle.fw_kept.specs.declared.error.KeptError.{KeptError}
use Rattle.fw_kept.specs.declared.error.KeptError.TheVariants as kept
use Rattle.fw_host.specs.declared.datagram_port.ClosedBy.{ClosedBy}
use Rattle.fw_host.specs.declared.datagram_port.ClosedBy.TheVariants.{Socket, Capture, Counter}
use Rattle.fw_cli.specs.declared.error.ClosingError.{ClosingError}
use Rattle.fw_cli.specs.declared.error.ClosingError.TheVariants as closing

-- the file itself was refused
abbrev pub reason_of : Option Cause → Option Reason
reason_of cause = option_map (λ (c : Cause). record { name = Main; cause = c }) cause

-- the file of a book was, if this error is of that
abbrev pub book_reason : KeptError → Option Cause → Option Reason
book_reason kept.BookFault cause = reason_of cause
book_reason error cause = None

-- what a sealer without counters ends a daemon with
abbrev pub counter_error : CounterError → ClosingError
counter_error counter.CounterSpent = closing.CounterSpent
counter_error error = closing.CounterFault

-- this error if something is there, and that of the socket if nothing is
abbrev pub error_with : {A : Type 0} → Option A → ClosingError → ClosingError
error_with None e = closing.Socket
error_with (Some there) e = e

-- the error of a daemon whose port is closed, if it has a capture, or keys
abbrev pub closing_error : {A B : Type 0} → Option A → Option B → ClosedBy → ClosingError
closing_error file links Socket = closing.Socket
closing_error file links Capture = error_with file closing.CaptureFault
closing_error file links (Counter error) = error_with links (counter_error error)

-- without keys it is none of counters
abbrev pub IsClosingKeyed : {A : Type 0} → Option A → ClosingError → Type 0
IsClosingKeyed links closing.CounterFault = IsTrue (is_some links)
IsClosingKeyed links closing.CounterSpent = IsTrue (is_some links)
IsClosingKeyed links error = Unit {0}
