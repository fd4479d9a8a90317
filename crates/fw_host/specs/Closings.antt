-- Public vocabulary: why a port is closed, where it is.
use Rattle.std.specs.Prelude.{Bool, true, false, Option, Some, None}
use Rattle.fw_counter.specs.declared.error.CounterError.{CounterError}
use Rattle.fw_host.specs.declared.datagram_port.ClosedBy.{ClosedBy}
use Rattle.fw_host.specs.declared.datagram_port.ClosedBy.TheVariants.{Socket, Capture, Counter}

-- a port with a capture: by that, where a record could not be put, and otherwise by its socket
abbrev pub closed_by_record : Bool → ClosedBy
closed_by_record true = Capture
closed_by_record false = Socket

-- a sealing port: by its counter, if none is given any more, and otherwise by the port below
abbrev pub closed_by_counter : Option CounterError → ClosedBy → ClosedBy
closed_by_counter None below = below
closed_by_counter (Some error) below = Counter error
