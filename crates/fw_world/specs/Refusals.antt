-- Public vocabulary: what an event is refused for, and which events may take memory.
use Rattle.std.specs.Prelude.{◌≡◌, ◌⊎◌, ◌≤◌, ℕ, List, IsSomeAnd, is_some, Option, Some, None, slice_get, if◌then◌else◌}
use Rattle.std.specs.List.{list_all}
use Rattle.fw_book.specs.declared.error.BookError.{BookError}
use Rattle.fw_book.specs.declared.error.BookError.TheVariants as book
use Rattle.fw_book.specs.Changes.{opening_refusal, cancel_refusal}
use Rattle.fw_head.specs.Head.{Head, row_of, RowsMayWant}
use Rattle.fw_head.specs.Phase.{IsLive}
use Rattle.fw_image.specs.Calls.{verified_size}
use Rattle.fw_image.specs.Meter.{Meter}
use Rattle.fw_meter.specs.Handling as meter
use Rattle.fw_world.specs.declared.datagram.Direction.{Direction}
use Rattle.fw_world.specs.declared.datagram.Direction.TheVariants.{ToMeter, ToHead}
use Rattle.fw_world.specs.declared.error.StepError.{StepError}
use Rattle.fw_world.specs.declared.error.StepError.TheVariants.{NoSuchDatagram, NoSuchActor, Book, OutOfMemory}
use Rattle.fw_world.specs.World.{Datagram}
use Rattle.fw_world.specs.Step.{Event, open_campaign, cancel_campaign, tick, deliver, stop, restart_meter, stop_restart, restart_head, turn}
use Rattle.fw_world.specs.State.{State, head_at, meter_at}

-- what an event is refused for that a book refuses
abbrev pub of_book : BookError → StepError
of_book book.OutOfMemory = OutOfMemory
of_book refusal = Book refusal

abbrev pub by_book : Option BookError → Option StepError
by_book None = None
by_book (Some refusal) = Some (of_book refusal)

-- without the head end, the meter or the datagram there is no such one; else it is as they say
abbrev pub with_head : Option Head → (Head → Option StepError) → Option StepError
with_head None refusal = Some NoSuchActor
with_head (Some head) refusal = refusal head

abbrev pub with_meter : Option Meter → Option StepError
with_meter None = Some NoSuchActor
with_meter (Some meter) = None

abbrev pub with_datagram : Option Datagram → (Datagram → Option StepError) → Option StepError
with_datagram None refusal = Some NoSuchDatagram
with_datagram (Some d) refusal = refusal d

abbrev pub no_addressee : State → Direction → Datagram → Option StepError
no_addressee s ToMeter d = with_meter (meter_at s d.meter)
no_addressee s ToHead d = with_head (head_at s d.head) (λ head. None)

-- a head end doesn't stop
abbrev pub no_stop : State → Direction → Datagram → Option StepError
no_stop s ToMeter d = with_meter (meter_at s d.meter)
no_stop s ToHead d = Some NoSuchActor

-- the first refusal that applies; an opening is refused for its head end, then for its meters, and then by the book
abbrev pub refusal_of : State → Event → Option StepError
refusal_of s (open_campaign campaign release image meters) = with_head (head_at s campaign.head) (λ head.
    if list_all (λ meter. is_some (meter_at s meter)) meters then by_book (opening_refusal head.book campaign image meters) else Some NoSuchActor)
refusal_of s (cancel_campaign campaign) = with_head (head_at s campaign.head) (λ head. by_book (cancel_refusal head.book campaign))
refusal_of s (tick head meter) = with_head (head_at s head) (λ head. with_meter (meter_at s meter))
refusal_of s (deliver number) = with_datagram (slice_get s.sent number) (λ d. no_addressee s d.direction d)
refusal_of s (stop number calls torn) = with_datagram (slice_get s.sent number) (λ d. no_stop s d.direction d)
refusal_of s (restart_meter number) = with_meter (meter_at s number)
refusal_of s (stop_restart number calls torn) = with_meter (meter_at s number)
refusal_of s (restart_head number) = with_head (head_at s number) (λ head. None)
refusal_of s (turn number) = with_meter (meter_at s number)

-- a meter has a live row of this head end
abbrev pub HasLiveRow : Head → ℕ → Type 0
HasLiveRow head meter = IsSomeAnd (row_of head.rows meter) (λ row. IsLive row.stage)

-- a meter holds an image that it verified and may switch to
abbrev pub HoldsVerified : Meter → Type 0
HoldsVerified m = 1 ≤ verified_size m.phase

-- a meter may take memory for a datagram, or for the image that it may switch to
abbrev pub MeterMayWant : Meter → List ℕ → Type 0
MeterMayWant m datagram = meter.MayWantMemory datagram ⊎ HoldsVerified m

-- a head end may take memory for a datagram where the sender's live row may
abbrev pub AddresseeMayWant : State → Direction → Datagram → Type 0
AddresseeMayWant s ToMeter d = (m : Meter) × (meter_at s d.meter ≡ Some m) × MeterMayWant m d.bytes
AddresseeMayWant s ToHead d = (head : Head) × (head_at s d.head ≡ Some head) × RowsMayWant head.rows d.meter d.bytes

-- An opening may take memory, a tick where the meter has a live row, a delivery if its addressee may, and a stop where the datagram or
-- the meter may.
abbrev pub MayWantMemory : State → Event → Type 0
MayWantMemory s (open_campaign campaign release image meters) = Unit {0}
MayWantMemory s (tick number meter) = (head : Head) × (head_at s number ≡ Some head) × HasLiveRow head meter
MayWantMemory s (deliver number) = (d : Datagram) × (slice_get s.sent number ≡ Some d) × AddresseeMayWant s d.direction d
MayWantMemory s (stop number calls torn) =
    (d : Datagram) × (m : Meter) × (slice_get s.sent number ≡ Some d) × (meter_at s d.meter ≡ Some m) × MeterMayWant m d.bytes
MayWantMemory s event = ⊥

-- memory is refused if nothing else is a reason
abbrev pub IsRefused : State → Event → StepError → Type 0
IsRefused s event error = (refusal_of s event ≡ Some error) ⊎ ((refusal_of s event ≡ None) × (error ≡ OutOfMemory) × MayWantMemory s event)
