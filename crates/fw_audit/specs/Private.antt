-- For private members alone: no public clause cites it.
use Rattle.std.specs.Prelude.{◌≡◌, ◌⊎◌, ◌++◌, ◌+◌, ◌<◌, ◌≤◌, ℕ, List, [], ◌∷◌, take, slice_get, length, All, Contains, Option, Some, None, Result, Ok, Err, IfSome, IsSomeAnd}
use Rattle.std.specs.Global.{Vec}
use Rattle.std.specs.declared.net.socket_addr.SocketAddr.{SocketAddr}
use Rattle.fw_image.specs.Meter.{Image, Meter, migrated, reopened}
use Rattle.fw_stored.specs.Stored.{IsSound}
use Rattle.fw_audit.specs.Log.{Item, started, came, sent, turned}
use Rattle.fw_audit.specs.Stands.{Stand, ended, waits, owes, left_by, IsMeterLog, Makes, Leads}
use Rattle.fw_audit.specs.Departures.{IsDeparture, IsRefused, rule_of}
use Rattle.fw_audit.specs.declared.error.AuditError.{AuditError}
use Rattle.fw_audit.specs.declared.error.Departure.{Departure}
use Rattle.fw_audit.specs.declared.going.Going.{Going}
use Rattle.fw_audit.specs.declared.going.Owed.{Owed}
use Rattle.fw_audit.specs.declared.going.Misstep.{Misstep}
use Rattle.fw_audit.specs.declared.going.Misstep.TheVariants as missteps
use Rattle.fw_audit.specs.declared.life.Left.{Left}
use Rattle.fw_audit.specs.declared.life.Stop.{Stop}
use Rattle.fw_audit.specs.declared.life.Stop.TheVariants as stops

-- ---- a process that runs

abbrev pub Alive : Stand → Type 0
Alive (ended meter) = ⊥
Alive (waits meter) = Unit {0}
Alive (owes to reply meter) = Unit {0}

abbrev pub meter_in : Stand → Meter
meter_in (ended meter) = meter
meter_in (waits meter) = meter
meter_in (owes to reply meter) = meter

abbrev pub stand_in : Meter → Option Owed → Stand
stand_in meter None = waits meter
stand_in meter (Some owed) = owes owed.to owed.reply.items meter

abbrev pub stand_of : Going → Stand
stand_of going = stand_in going.meter.meter going.owed

-- The images that it switched to, those before and these.
abbrev pub HasImages : List Image → List Image → List Image → Type 0
HasImages had images all = all ≡ had ++ images

-- An item leads to here, and to nowhere else where the process is alive.
pub record IsNext (heads : List SocketAddr) (had : List Image) (old : Stand) (item : Item) (next : Going) : Type 0 where
  pub images : List Image
  pub makes : Makes heads old item images (stand_of next)
  pub so_far : HasImages had images next.switched.items
  pub alone : (others : List Image) (new : Stand) → Makes heads old item others new → Alive new → new ≡ stand_of next
  pub sound : IsSound next.meter
  pub size : next.meter.meter.capacity ≡ (meter_in old).capacity

-- It leads nowhere, and breaks this rule; or memory was refused, which only a datagram that came may want.
abbrev pub IsMisstep : List SocketAddr → Stand → Item → Misstep → Type 0
IsMisstep heads old item (missteps.Departs rule) = (rule ≡ rule_of old item) × ((images : List Image) (new : Stand) → Makes heads old item images new → ⊥)
IsMisstep heads old item missteps.OutOfMemory = (from : SocketAddr) × (datagram : List ℕ) × (item ≡ came from datagram)

abbrev pub IsStepped : List SocketAddr → List Image → Stand → Item → Result Going Misstep → Type 0
IsStepped heads had old item (Ok next) = IsNext heads had old item next
IsStepped heads had old item (Err misstep) = IsMisstep heads old item misstep

-- ---- a life: from a start to the next one

-- Items lead to here, and to nowhere else where the process is alive.
pub record IsPast (heads : List SocketAddr) (had : List Image) (old : Stand) (log : List Item) (next : Going) : Type 0 where
  pub images : List Image
  pub leads : Leads heads old log images (stand_of next)
  pub so_far : HasImages had images next.switched.items
  pub alone : (others : List Image) (new : Stand) → Leads heads old log others new → Alive new → new ≡ stand_of next
  pub sound : IsSound next.meter
  pub size : next.meter.meter.capacity ≡ (meter_in old).capacity

abbrev pub IsRan : List SocketAddr → List Image → Stand → List Item → Result Going Stop → Type 0
IsRan heads had old log (Ok next) = IsPast heads had old log next
IsRan heads had old log (Err (stops.Departs d)) = IsDeparture heads old log d
IsRan heads had old log (Err stops.OutOfMemory) = Unit {0}

-- in which a kill leaves two meters
abbrev pub IsOpen : Item → Type 0
IsOpen started = ⊥
IsOpen (came from datagram) = Unit {0}
IsOpen (sent to bytes) = ⊥
IsOpen turned = Unit {0}

-- the last item is such a one
abbrev pub EndsOpen : List Item → Type 0
EndsOpen log = (front : List Item) × (item : Item) × (log ≡ front ++ item ∷ []) × IsOpen item

-- A log from a store with a meter leaves this one.
pub record IsLeft (heads : List SocketAddr) (had : List Image) (begin : Meter) (log : List Item) (end : Left) : Type 0 where
  pub images : List Image
  pub stand : Stand
  pub leads : Leads heads (ended begin) log images stand
  pub left : end.meter.meter ≡ left_by stand
  pub so_far : HasImages had images end.switched.items
  pub rests : reopened end.meter.meter ≡ end.meter.meter
  pub size : end.meter.meter.capacity ≡ begin.capacity

-- It leaves one of these, and no other.
pub record AreLeft (heads : List SocketAddr) (had : List Image) (begin : Meter) (log : List Item) (first : Left) (second : Option Left) : Type 0 where
  pub one : IsLeft heads had begin log first
  pub two : IfSome second (λ end. IsLeft heads had begin log end)
  pub all : (images : List Image) (stand : Stand) → Leads heads (ended begin) log images stand
      → (first.meter.meter ≡ left_by stand) ⊎ IsSomeAnd second (λ end. end.meter.meter ≡ left_by stand)

-- A process that starts with this meter and then does this leaves one of these, and no other; or no process does it.
abbrev pub IsOutlived : List SocketAddr → List Image → Meter → List Item → Result (Left × Option Left) Stop → Type 0
IsOutlived heads had begin body (Ok both) = AreLeft heads had begin (started ∷ body) both.0 both.1
IsOutlived heads had begin body (Err (stops.Departs d)) = IsDeparture heads (waits (migrated begin)) body d
IsOutlived heads had begin body (Err stops.OutOfMemory) = Unit {0}

abbrev pub IsLived : List SocketAddr → List Image → Meter → List Item → Result Left Stop → Type 0
IsLived heads had begin body (Ok left) = AreLeft heads had begin (started ∷ body) left None
IsLived heads had begin body (Err (stops.Departs d)) = IsDeparture heads (waits (migrated begin)) body d
IsLived heads had begin body (Err stops.OutOfMemory) = Unit {0}

abbrev pub IsDied : List SocketAddr → List Image → Meter → List Item → Result (Left × Left) Stop → Type 0
IsDied heads had begin body (Ok both) = AreLeft heads had begin (started ∷ body) both.0 (Some both.1)
IsDied heads had begin body (Err (stops.Departs d)) = IsDeparture heads (waits (migrated begin)) body d
IsDied heads had begin body (Err stops.OutOfMemory) = Unit {0}

-- ---- life after life

-- one of these has this meter
abbrev pub HasMeter : List Left → Meter → Type 0
HasMeter lefts meter = (left : Left) × Contains lefts left × (left.meter.meter ≡ meter)

-- those of before and one more, but each meter once
pub record Adds (before : List Left) (left : Left) (after : List Left) : Type 0 where
  pub keeps : (meter : Meter) → HasMeter before meter → HasMeter after meter
  pub has : HasMeter after left.meter.meter
  pub only : (any : Left) → Contains after any → Contains before any ⊎ (any ≡ left)
  pub some : 1 ≤ length after

pub record AddsBoth (before : List Left) (first : Left) (second : Option Left) (after : List Left) : Type 0 where
  pub keeps : (meter : Meter) → HasMeter before meter → HasMeter after meter
  pub has_first : HasMeter after first.meter.meter
  pub has_second : IfSome second (λ left. HasMeter after left.meter.meter)
  pub only : (any : Left) → Contains after any → Contains before any ⊎ (any ≡ first) ⊎ IsSomeAnd second (λ left. any ≡ left)
  pub some : 1 ≤ length after

-- it is left by a process that starts with one of these meters and then does this
abbrev pub IsFrom : List SocketAddr → List Left → List Item → Left → Type 0
IsFrom heads lefts body new = (left : Left) × Contains lefts left × IsLeft heads left.switched.items left.meter.meter (started ∷ body) new

-- each meter that such a process leaves which starts with this one is there
abbrev pub Covers : List SocketAddr → List Item → List Left → Left → Type 0
Covers heads body found left = (images : List Image) (stand : Stand) → Leads heads (ended left.meter.meter) (started ∷ body) images stand → HasMeter found (left_by stand)

-- no process that starts with this meter does this up to this place
abbrev pub DepartsBy : List SocketAddr → List Item → ℕ → Left → Type 0
DepartsBy heads body at left = (images : List Image) (stand : Stand) → Leads heads (waits (migrated left.meter.meter)) (take (at + 1) body) images stand → ⊥

-- this meter has no way on, or each that it leaves is found
abbrev pub Settled : List SocketAddr → List Item → List Left → Option Departure → Left → Type 0
Settled heads body found far left =
    ((1 ≤ length found) × Covers heads body found left) ⊎ ((d : Departure) × (far ≡ Some d) × DepartsBy heads body d.at left)

-- Of these meters the rest is still to be followed. What was found is left by the others, and these are settled. Of those that have no way on
-- one went this far.
pub record Gathers (heads : List SocketAddr) (lefts : List Left) (body : List Item) (rest found : List Left) (far : Option Departure) : Type 0 where
  pub done : List Left
  pub is : lefts ≡ rest ++ done
  pub each : All (IsFrom heads lefts body) found
  pub settled : (left : Left) → Contains done left → Settled heads body found far left
  pub one : (d : Departure) → far ≡ Some d → (left : Left) × Contains lefts left × IsDeparture heads (waits (migrated left.meter.meter)) body d

-- with one meter more
abbrev pub GathersOn : List SocketAddr → List Item → Left → List Left → Option Departure → List Left → Option Departure → Type 0
GathersOn heads body left found far more farther =
    (lefts : List Left) (rest : List Left) (less : List Left) → Gathers heads lefts body rest found far → rest ≡ less ++ left ∷ [] → Gathers heads lefts body less more farther

pub record AreOutlived (heads : List SocketAddr) (lefts : List Left) (body : List Item) (found : List Left) : Type 0 where
  pub some : 1 ≤ length found
  pub each : All (IsFrom heads lefts body) found
  pub all : (left : Left) → Contains lefts left → Covers heads body found left

pub record AllDepart (heads : List SocketAddr) (lefts : List Left) (body : List Item) (d : Departure) : Type 0 where
  pub one : (left : Left) × Contains lefts left × IsDeparture heads (waits (migrated left.meter.meter)) body d
  pub all : (left : Left) → Contains lefts left → DepartsBy heads body d.at left

abbrev pub IsAllOutlived : List SocketAddr → List Left → List Item → Result (Vec Left) Stop → Type 0
IsAllOutlived heads lefts body (Ok found) = AreOutlived heads lefts body found.items
IsAllOutlived heads lefts body (Err (stops.Departs d)) = AllDepart heads lefts body d
IsAllOutlived heads lefts body (Err stops.OutOfMemory) = Unit {0}

-- ---- a whole log

-- at this place is a start, or nothing
abbrev pub StartsAt : List Item → ℕ → Type 0
StartsAt log at = at < length log → slice_get log at ≡ Some started

-- these meters a log leaves, and no other
pub record AreAllLeft (heads : List SocketAddr) (begin : Meter) (log : List Item) (lefts : List Left) : Type 0 where
  pub some : 1 ≤ length lefts
  pub each : All (IsLeft heads [] begin log) lefts
  pub all : (images : List Image) (stand : Stand) → Leads heads (ended begin) log images stand → HasMeter lefts (left_by stand)

abbrev pub IsFollowed : List SocketAddr → Meter → List Item → Result (Vec Left) Stop → Type 0
IsFollowed heads begin log (Ok lefts) = AreAllLeft heads begin log lefts.items
IsFollowed heads begin log (Err (stops.Departs d)) = IsDeparture heads (ended begin) log d
IsFollowed heads begin log (Err stops.OutOfMemory) = StartsAt log 0

abbrev pub IsChosen : List SocketAddr → Meter → List Item → Meter → Result (Vec Image) AuditError → Type 0
IsChosen heads begin log end (Ok images) = IsMeterLog heads begin log images.items end
IsChosen heads begin log end (Err error) = IsRefused heads begin log end error
