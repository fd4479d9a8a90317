-- Public vocabulary: what the process of a meter does, item by item of its log. It may be killed at any moment, and is started again.
use Rattle.std.specs.Prelude.{◌≡◌, ◌⊎◌, ◌++◌, ℕ, IsTrue, true, List, [], ◌∷◌, Option, Some, None, Contains}
use Rattle.std.specs.declared.net.socket_addr.SocketAddr.{SocketAddr}
use Rattle.fw_names.specs.Name.{Name}
use Rattle.fw_image.specs.Meter.{Image, Meter, migrated, reopened, status_of}
use Rattle.fw_image.specs.Step.{Turn}
use Rattle.fw_image.specs.declared.status.TransferStatus.TheVariants.{VerificationInitiated}
use Rattle.fw_meter.specs.Handling.{Handles}
use Rattle.fw_audit.specs.Log.{Item, started, came, sent, turned}

-- Where the process of a meter stands between two items.
pub data Stand : Type 0 where
  -- it doesn't run, and its store holds this meter
  ended : Meter → Stand
  -- it runs, and all that came is answered
  waits : Meter → Stand
  -- it runs, and owes this address this reply
  owes : SocketAddr → List ℕ → Meter → Stand

-- The meter that its store holds if it is killed there. A verification that goes on is kept nowhere.
abbrev pub left_by : Stand → Meter
left_by (ended meter) = meter
left_by (waits meter) = reopened meter
left_by (owes to reply meter) = reopened meter

-- An address may ask if it is one of these, or if there are none.
abbrev pub MayAsk : List SocketAddr → SocketAddr → Type 0
MayAsk heads from = (heads ≡ []) ⊎ Contains heads from

-- ---- one item

-- an image that the meter switched to is the one that runs then
abbrev pub switched_to : Option Name → Meter → List Image
switched_to None after = []
switched_to (Some name) after = record { name = name; bytes = after.running.bytes } ∷ []

-- a reply is owed to where the datagram came from
abbrev pub owing : SocketAddr → Option (List ℕ) → Meter → Stand
owing from None meter = waits meter
owing from (Some reply) meter = owes from reply meter

-- A datagram from an address that may ask is handled.
pub record IsHandled (heads : List SocketAddr) (old : Meter) (from : SocketAddr) (datagram : List ℕ) (images : List Image) (new : Stand) : Type 0 where
  pub may_ask : MayAsk heads from
  pub reply : Option (List ℕ)
  pub name : Option Name
  pub after : Meter
  pub handles : Handles true IsTrue old datagram reply name after
  pub switches : images ≡ switched_to name after
  pub stands : new ≡ owing from reply after

-- One from any other address is dropped.
pub record IsDropped (heads : List SocketAddr) (old : Meter) (from : SocketAddr) (images : List Image) (new : Stand) : Type 0 where
  pub may_not : MayAsk heads from → ⊥
  pub none : images ≡ []
  pub stands : new ≡ waits old

-- The process is killed before it does what it noted.
pub record IsKilled (old : Meter) (images : List Image) (new : Stand) : Type 0 where
  pub none : images ≡ []
  pub ends : new ≡ ended (reopened old)

-- A verification goes on.
pub record GoesOn (old : Meter) (images : List Image) (new : Stand) : Type 0 where
  pub after : Meter
  pub turn : Turn true old true after
  pub none : images ≡ []
  pub stands : new ≡ waits after

-- It starts, wherever it was killed before, and its store has a header of version 2 from then on.
abbrev pub Starts : Stand → List Image → Stand → Type 0
Starts old images new = (images ≡ []) × (new ≡ waits (migrated (left_by old)))

-- A datagram comes where all others are answered. If the process is killed then, that was before the datagram was handled or after it.
abbrev pub Hears : List SocketAddr → Stand → SocketAddr → List ℕ → List Image → Stand → Type 0
Hears heads (ended old) from datagram images new = ⊥
Hears heads (waits old) from datagram images new =
    IsHandled heads old from datagram images new ⊎ (IsDropped heads old from images new ⊎ IsKilled old images new)
Hears heads (owes to reply old) from datagram images new = ⊥

-- The reply that is owed is sent, and nothing else.
abbrev pub Sends : Stand → SocketAddr → List ℕ → List Image → Stand → Type 0
Sends (ended old) to bytes images new = ⊥
Sends (waits old) to bytes images new = ⊥
Sends (owes there reply old) to bytes images new = (to ≡ there) × (bytes ≡ reply) × (images ≡ []) × (new ≡ waits old)

-- A turn is noted where an image is verified. If the process is killed then, that was before the turn or after it.
abbrev pub TakesTurn : Stand → List Image → Stand → Type 0
TakesTurn (ended old) images new = ⊥
TakesTurn (waits old) images new = (status_of old.phase ≡ VerificationInitiated) × (GoesOn old images new ⊎ IsKilled old images new)
TakesTurn (owes to reply old) images new = ⊥

-- From old, an item leads to new, and the meter switches to these images.
abbrev pub Makes : List SocketAddr → Stand → Item → List Image → Stand → Type 0
Makes heads old started images new = Starts old images new
Makes heads old (came from datagram) images new = Hears heads old from datagram images new
Makes heads old (sent to bytes) images new = Sends old to bytes images new
Makes heads old turned images new = TakesTurn old images new

-- ---- a log

-- From old, these items lead to new, one after the other, and the meter switches to these images, in order.
abbrev pub Leads : List SocketAddr → Stand → List Item → List Image → Stand → Type 0
Leads heads old [] images new = (images ≡ []) × (new ≡ old)
Leads heads old (item ∷ log) images new =
    (next : Stand) × (first : List Image) × (rest : List Image) × Makes heads old item first next × Leads heads next log rest new × (images ≡ first ++ rest)

-- This is the log of a meter that just these addresses may ask: its store held this meter before the first item, it switched to these
-- images, in order, and its store holds that meter after the last item, where the process is killed.
pub record IsMeterLog (heads : List SocketAddr) (begin : Meter) (log : List Item) (images : List Image) (end : Meter) : Type 0 where
  pub stand : Stand
  pub leads : Leads heads (ended begin) log images stand
  pub left : end ≡ left_by stand

-- It is the log of a meter, whatever that switched to, and whatever its store holds after it. What such a log begins with is one, too.
abbrev pub IsLog : List SocketAddr → Meter → List Item → Type 0
IsLog heads begin log = (images : List Image) × (end : Meter) × IsMeterLog heads begin log images end
