-- Public vocabulary: the logs of ends, and an order of all that they tell. No clock is asked.
use Rattle.std.specs.Prelude.{◌≡◌, ◌==◌, ◌++◌, ℕ, List, ◌∷◌, [], map, filter, Option, Some, Contains, slice_get}
use Rattle.std.specs.Option.{option_map, option_map_or}
use Rattle.std.specs.declared.net.socket_addr.SocketAddr.{SocketAddr}
use Rattle.fw_audit.specs.Log.{Item, came, sent, log_of}
use Rattle.fw_order.specs.declared.log.EndLog.{EndLog}

-- an end: the address that others see of it, and its log
pub record End : Type 0 where
  pub at : SocketAddr
  pub log : List Item

abbrev pub end_of : EndLog → End
end_of log = record { at = log.at; log = log_of log.items.now }

abbrev pub ends_of : List EndLog → List End
ends_of logs = map end_of logs

-- the address of the end of this number, and its log
abbrev pub address_of : List End → ℕ → Option SocketAddr
address_of ends number = option_map (λ (end : End). end.at) (slice_get ends number)

abbrev pub log_at : List End → ℕ → List Item
log_at ends number = option_map_or (λ (end : End). end.log) (slice_get ends number) []

-- it is the address of an end
abbrev pub IsEnd : List End → SocketAddr → Type 0
IsEnd ends address = (number : ℕ) × (address_of ends number ≡ Some address)

-- ---- an order

-- an item, and the number of the end whose it is
pub record Step : Type 0 where
  pub end : ℕ
  pub item : Item

-- the items of an end in an order
abbrev pub items_of : List Step → ℕ → List Item
items_of order number = map (λ (step : Step). step.item) (filter (λ (step : Step). step.end == number) order)

-- An order of all items: each log stands in it as it is.
abbrev pub IsOrder : List End → List Step → Type 0
IsOrder ends order = (number : ℕ) → items_of order number ≡ log_at ends number

-- an end of this address sent it there in these steps
abbrev pub HasSent : List End → List Step → SocketAddr → SocketAddr → List ℕ → Type 0
HasSent ends steps from to bytes = (number : ℕ) × (address_of ends number ≡ Some from) × Contains (items_of steps number) (sent to bytes)

-- If a step is that a datagram came which shows the address of an end, an end of that address had sent it there before.
abbrev pub IsExplained : List End → List Step → Step → Type 0
IsExplained ends before step =
    (from to : SocketAddr) (bytes : List ℕ) → step.item ≡ came from bytes → address_of ends step.end ≡ Some to → IsEnd ends from → HasSent ends before from to bytes

-- So it is with each step.
abbrev pub IsCausal : List End → List Step → Type 0
IsCausal ends order = (before after : List Step) (step : Step) → order ≡ before ++ step ∷ after → IsExplained ends before step

-- The logs agree: all that they tell can have happened in some order.
abbrev pub HasOrder : List End → Type 0
HasOrder ends = (order : List Step) × IsOrder ends order × IsCausal ends order
