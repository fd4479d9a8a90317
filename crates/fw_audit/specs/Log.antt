-- Public vocabulary: the log of a meter: what its process did, and what came to it, item by item, as its capture has it.
use Rattle.std.specs.Prelude.{ℕ, List, map}
use Rattle.std.specs.declared.net.socket_addr.SocketAddr.{SocketAddr}
use Rattle.fw_audit.specs.declared.item.LogItem.{LogItem}
use Rattle.fw_audit.specs.declared.item.LogItem.TheVariants as kinds

pub data Item : Type 0 where
  -- its process was started
  started : Item
  -- a datagram came from this address
  came : SocketAddr → List ℕ → Item
  -- one was sent there
  sent : SocketAddr → List ℕ → Item
  -- it took a turn of a verification
  turned : Item

-- an item apart from where it lies in memory
abbrev pub item_of : LogItem → Item
item_of kinds.Started = started
item_of (kinds.Came from bytes) = came from bytes.now
item_of (kinds.Sent to bytes) = sent to bytes.now
item_of kinds.Turned = turned

abbrev pub log_of : List LogItem → List Item
log_of items = map item_of items
