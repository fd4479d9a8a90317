-- Public vocabulary: the laws of orders. They speak of definitions alone.
use Rattle.std.specs.Prelude.{◌≡◌, ℕ, List, ◌∷◌, Some, Contains}
use Rattle.std.specs.declared.net.socket_addr.SocketAddr.{SocketAddr}
use Rattle.fw_audit.specs.Log.{Item, came}
use Rattle.fw_order.specs.Order.{End, HasOrder, IsEnd, address_of, log_at}
use Rattle.fw_order.specs.Departures.{IsDeparture, SendsEver}
use Rattle.fw_order.specs.declared.error.OrderDeparture.{OrderDeparture}

-- Where an end can't go on, there is no order.
abbrev pub OrderDeparts : Type 0
OrderDeparts = (ends : List End) (d : OrderDeparture) → IsDeparture ends d → HasOrder ends → ⊥

-- Each datagram that came, and shows the address of an end, is in the log of an end of that address. So with a sending left out or changed, or
-- to another address, there is no order.
abbrev pub EachWasSent : Type 0
EachWasSent =
    (ends : List End) (number : ℕ) (from to : SocketAddr) (bytes : List ℕ) → HasOrder ends → Contains (log_at ends number) (came from bytes)
    → address_of ends number ≡ Some to → IsEnd ends from → SendsEver ends from to bytes

-- an end that begins with this item needs no other for it
abbrev pub Begins : List End → Item → Type 0
Begins ends item = (from : SocketAddr) (bytes : List ℕ) → item ≡ came from bytes → IsEnd ends from → ⊥

-- If anything was done, one end began. So if each hears another before all else, there is no order.
abbrev pub OneBegins : Type 0
OneBegins =
    (ends : List End) (number : ℕ) (any : Item) (later : List Item) → HasOrder ends → log_at ends number ≡ any ∷ later
    → (first : ℕ) × (item : Item) × (rest : List Item) × (log_at ends first ≡ item ∷ rest) × Begins ends item
