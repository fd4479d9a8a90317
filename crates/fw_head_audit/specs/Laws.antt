-- Public vocabulary: the laws of the logs of head ends. They speak of definitions alone.
use Rattle.std.specs.Prelude.{◌≢◌, ℕ, List}
use Rattle.std.specs.declared.net.socket_addr.SocketAddr.{SocketAddr}
use Rattle.fw_book.specs.Contents.{Contents}
use Rattle.fw_head.specs.Head.{IsOfferedIn}
use Rattle.fw_audit.specs.Log.{Item}
use Rattle.fw_head_audit.specs.Heads.{IsHeadLog, IsOfferedAt, IsRefused}
use Rattle.fw_head_audit.specs.declared.error.HeadAuditError.{HeadAuditError}
use Rattle.fw_head_audit.specs.declared.error.HeadAuditError.TheVariants.{OutOfMemory}
use Rattle.fw_head_audit.specs.declared.meter.AskedMeter.{AskedMeter}

-- Where a log departs, it is none of a head end with this book.
abbrev pub HeadDeparts : Type 0
HeadDeparts =
    (book : Contents) (meters : List AskedMeter) (log : List Item) (error : HeadAuditError) → IsRefused book meters log error → error ≢ OutOfMemory
    → IsHeadLog book meters log → ⊥

-- What is offered to a meter is what a head end with this book may send in the world.
abbrev pub OfferedInBook : Type 0
OfferedInBook = (book : Contents) (meters : List AskedMeter) (to : SocketAddr) (datagram : List ℕ) → IsOfferedAt book meters to datagram → IsOfferedIn book datagram
