-- Public vocabulary: where logs don't agree.
use Rattle.std.specs.Prelude.{◌≡◌, ◌≤◌, ◌++◌, ℕ, List, Some, Contains, length, slice_get}
use Rattle.std.specs.declared.net.socket_addr.SocketAddr.{SocketAddr}
use Rattle.fw_audit.specs.Log.{Item, came, sent}
use Rattle.fw_order.specs.Order.{End, IsCausal, IsEnd, Step, address_of, items_of, log_at}
use Rattle.fw_order.specs.declared.error.OrderDeparture.{OrderDeparture}
use Rattle.fw_order.specs.declared.error.OrderError.{OrderError}
use Rattle.fw_order.specs.declared.error.OrderError.TheVariants as errors
use Rattle.fw_order.specs.declared.error.OrderRule.{OrderRule}
use Rattle.fw_order.specs.declared.error.OrderRule.TheVariants as broken

-- An order of what ends did first: the front of each log stands in it.
abbrev pub IsFrontOrder : List End → List Step → Type 0
IsFrontOrder ends order = (number : ℕ) → (rest : List Item) × (log_at ends number ≡ items_of order number ++ rest)

-- an end of this address sends it there at some time
abbrev pub SendsEver : List End → SocketAddr → SocketAddr → List ℕ → Type 0
SendsEver ends from to bytes = (number : ℕ) × (address_of ends number ≡ Some from) × Contains (log_at ends number) (sent to bytes)

-- what is wrong with a datagram that came, and wasn't sent before
abbrev pub Breaks : List End → SocketAddr → SocketAddr → List ℕ → OrderRule → Type 0
Breaks ends from to bytes broken.NeverSent = SendsEver ends from to bytes → ⊥
Breaks ends from to bytes broken.SentLater = SendsEver ends from to bytes

-- In some order the end does all that stands before this item in its log, and in no order it gets past it. A datagram came there that shows
-- the address of an end, and breaks this rule.
pub record IsDeparture (ends : List End) (d : OrderDeparture) : Type 0 where
  pub order : List Step
  pub fronts : IsFrontOrder ends order
  pub causal : IsCausal ends order
  pub comes : length (items_of order d.end) ≡ d.at
  pub from : SocketAddr
  pub to : SocketAddr
  pub bytes : List ℕ
  pub own : address_of ends d.end ≡ Some to
  pub there : slice_get (log_at ends d.end) d.at ≡ Some (came from bytes)
  pub of_end : IsEnd ends from
  pub breaks : Breaks ends from to bytes d.rule
  pub departs : (other : List Step) → IsFrontOrder ends other → IsCausal ends other → length (items_of other d.end) ≤ d.at

-- What a search for an order says if it finds none. Memory may be wanted if there is an end.
abbrev pub IsRefused : List End → OrderError → Type 0
IsRefused ends (errors.Departs d) = IsDeparture ends d
IsRefused ends errors.OutOfMemory = 1 ≤ length ends
