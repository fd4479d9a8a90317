-- For private members alone: no public clause cites it.
use Rattle.std.specs.Prelude.{◌≡◌, ◌↔◌, ◌⊎◌, ◌++◌, ℕ, List, ◌∷◌, [], Some, Contains, length, slice_get}
use Rattle.std.specs.List.{sum_by}
use Rattle.std.specs.HashSet.{keys}
use Rattle.std.specs.declared.net.socket_addr.SocketAddr.{SocketAddr}
use Rattle.fw_audit.specs.Log.{Item, came, sent}
use Rattle.fw_order.specs.Order.{End, HasSent, IsCausal, IsEnd, Step, address_of, ends_of, items_of, log_at}
use Rattle.fw_order.specs.declared.log.EndLog.{EndLog}
use Rattle.fw_order.specs.declared.sent.Datagram.{Datagram}
use Rattle.fw_order.specs.declared.sent.Sent.{Sent}

-- ---- what was sent

abbrev pub IsDatagram : SocketAddr → SocketAddr → List ℕ → Datagram → Type 0
IsDatagram from to bytes datagram = (datagram.from ≡ from) × ((datagram.to ≡ to) × (datagram.bytes.now ≡ bytes))

-- this one was sent
abbrev pub Has : Sent → SocketAddr → SocketAddr → List ℕ → Type 0
Has set from to bytes = (datagram : Datagram) × Contains (keys set.datagrams) datagram × IsDatagram from to bytes datagram

-- and now this one too
abbrev pub Adds : Sent → SocketAddr → SocketAddr → List ℕ → Sent → Type 0
Adds old from to bytes new = (f t : SocketAddr) (b : List ℕ) → Has new f t b ↔ (Has old f t b ⊎ ((f ≡ from) × ((t ≡ to) × (b ≡ bytes))))

-- an end of this address did this
abbrev pub Notes : Sent → SocketAddr → Item → Sent → Type 0
Notes old from (sent to bytes) new = Adds old from to bytes new
Notes old from item new = new ≡ old

-- ---- how far an order has come

abbrev pub end_with : SocketAddr → List Item → End
end_with at log = record { at = at; log = log }

abbrev pub step_of : ℕ → Item → Step
step_of number item = record { end = number; item = item }

-- what is left of the logs, and what was sent
pub record Going : Type 0 where
  pub left : List EndLog
  pub sent : Sent

abbrev pub far : List EndLog → Sent → Going
far left set = record { left = left; sent = set }

abbrev pub lefts : Going → List End
lefts going = ends_of going.left

-- how many items are left
abbrev pub items_left : List EndLog → ℕ
items_left left = sum_by (λ (log : EndLog). length log.items.now) left

-- An order has come as far as here: it is causal, the fronts of the logs stand in it, and just this was sent in it.
pub record IsGone (ends : List End) (going : Going) : Type 0 where
  pub order : List Step
  pub causal : IsCausal ends order
  pub same : (number : ℕ) → address_of (lefts going) number ≡ address_of ends number
  pub cuts : (number : ℕ) → log_at ends number ≡ items_of order number ++ log_at (lefts going) number
  pub knows : (from to : SocketAddr) (bytes : List ℕ) → Has going.sent from to bytes ↔ HasSent ends order from to bytes

-- An item of the end at this address needs nothing that wasn't sent.
abbrev pub MayCome : List End → Sent → SocketAddr → Item → Type 0
MayCome ends set at (came from bytes) = Has set from at bytes ⊎ (IsEnd ends from → ⊥)
MayCome ends set at item = Unit {0}

-- It is a datagram of an end that wasn't sent.
abbrev pub Waits : List End → Sent → SocketAddr → Item → Type 0
Waits ends set at (came from bytes) = IsEnd ends from × (Has set from at bytes → ⊥)
Waits ends set at item = ⊥

-- The next item of an end may be next in the order,
pub record IsReady (going : Going) (number : ℕ) : Type 0 where
  pub at : SocketAddr
  pub item : Item
  pub rest : List Item
  pub there : slice_get (lefts going) number ≡ Some (end_with at (item ∷ rest))
  pub may : MayCome (lefts going) going.sent at item

-- or it may not,
pub record IsWaiting (going : Going) (number : ℕ) : Type 0 where
  pub at : SocketAddr
  pub item : Item
  pub rest : List Item
  pub there : slice_get (lefts going) number ≡ Some (end_with at (item ∷ rest))
  pub waits : Waits (lefts going) going.sent at item

-- or there is none.
abbrev pub IsStuck : Going → ℕ → Type 0
IsStuck going number = (log_at (lefts going) number ≡ []) ⊎ IsWaiting going number
