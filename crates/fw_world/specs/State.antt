-- Public vocabulary: the world as it is kept, with the head ends and their rows, and what each event makes of it.
use Rattle.std.specs.Prelude.{◌≡◌, ◌↔◌, ℕ, nat_eq, nat_le, if◌then◌else◌, true, false, Bool, IsTrue, List, ◌++◌, map, is_some, Option, Some, None, slice_get, All}
use Rattle.std.specs.Map.{lookup, set_value}
use Rattle.std.specs.Option.{option_and_then}
use Rattle.fw_names.specs.Name.{Campaign, Name, IsOpened}
use Rattle.fw_image.specs.Meter as image
use Rattle.fw_image.specs.Meter.{Meter, reopened}
use Rattle.fw_image.specs.Calls.{restart_calls}
use Rattle.fw_image.specs.Step.{Turn}
use Rattle.fw_book.specs.declared.row.RowState.{RowState}
use Rattle.fw_book.specs.declared.row.RowState.TheVariants as states
use Rattle.fw_book.specs.Contents.{image_in, state_in}
use Rattle.fw_book.specs.Changes.{opening_refusal, cancel_refusal}
use Rattle.fw_head.specs.declared.news.News.{News}
use Rattle.fw_head.specs.declared.news.News.TheVariants as news
use Rattle.fw_head.specs.Head.{Head, IsHead, IsDoneBy, IsOfferedIn, HeadHears, opened_head, cancelled_head, ticked_head, restarted, sends_to}
use Rattle.fw_meter.specs.Handling.{Handles}
use Rattle.fw_meter.specs.Stopping.{StopsAfter}
use Rattle.fw_world.specs.declared.datagram.Direction.{Direction}
use Rattle.fw_world.specs.declared.datagram.Direction.TheVariants.{ToMeter, ToHead}
use Rattle.fw_world.specs.World.{Datagram, Activation, World}
use Rattle.fw_world.specs.Step.{Event, open_campaign, cancel_campaign, tick, deliver, stop, restart_meter, stop_restart, restart_head, turn, replies, activated, RunBy}

pub record State : Type 0 where
  -- each head end under its number, and each meter under its own, in the order of the setup
  pub heads : List (ℕ × Head)
  pub meters : List (ℕ × Meter)
  pub sent : List Datagram
  pub activations : List Activation

abbrev pub head_at : State → ℕ → Option Head
head_at s number = lookup (nat_eq number) s.heads

abbrev pub meter_at : State → ℕ → Option Meter
meter_at s number = lookup (nat_eq number) s.meters

-- the same, except for one head end or one meter that is there
abbrev pub set_head : State → ℕ → Head → State
set_head s number head = record s { heads = set_value (nat_eq number) s.heads head }

abbrev pub set_meter : State → ℕ → Meter → State
set_meter s number meter = record s { meters = set_value (nat_eq number) s.meters meter }

-- the head end and the meter of a datagram are there
abbrev pub IsAddressed : State → Datagram → Type 0
IsAddressed s d = IsTrue (is_some (head_at s d.head)) × IsTrue (is_some (meter_at s d.meter))

-- each datagram was sent between a head end and a meter that are there
abbrev pub AreAddressed : State → Type 0
AreAddressed s = All (IsAddressed s) s.sent

-- each head end stands under its own number
pub record IsState (s : State) : Type 0 where
  pub own : (number : ℕ) (head : Head) → head_at s number ≡ Some head → head.book.head ≡ number

-- ---- the world that it is

-- whether a row is done
abbrev pub is_done : Option RowState → Bool
is_done (Some states.Done) = true
is_done state = false

abbrev pub world_of : State → World
world_of s = record {
  offered = λ campaign. option_and_then (λ (head : Head). image_in head.book campaign) (head_at s campaign.head);
  sent = s.sent;
  meters = λ number. meter_at s number;
  activations = s.activations;
  done = λ campaign meter. is_done (option_and_then (λ (head : Head). state_in head.book campaign meter) (head_at s campaign.head));
}

-- ---- what each event makes of it

-- a head end opens a campaign, which nothing refuses
pub record OpensAt (old : State) (campaign : Campaign) (release : ℕ) (image meters : List ℕ) (new : State) : Type 0 where
  pub is_opened : IsOpened campaign
  pub head : Head
  pub there : head_at old campaign.head ≡ Some head
  pub admitted : opening_refusal head.book campaign image meters ≡ None
  pub new_is : new ≡ set_head old campaign.head (opened_head head campaign.serial release image meters)

pub record CancelsAt (old : State) (campaign : Campaign) (new : State) : Type 0 where
  pub head : Head
  pub there : head_at old campaign.head ≡ Some head
  pub admitted : cancel_refusal head.book campaign ≡ None
  pub new_is : new ≡ set_head old campaign.head (cancelled_head head campaign.serial)

-- a head end sends to a meter what the meter's live row sends
abbrev pub sent_to : ℕ → ℕ → List (List ℕ) → List Datagram
sent_to head meter datagrams = map (λ bytes. record { head = head; meter = meter; direction = ToMeter; bytes = bytes }) datagrams

pub record TicksAt (old : State) (number meter : ℕ) (new : State) : Type 0 where
  pub head : Head
  pub there : head_at old number ≡ Some head
  pub meter_there : IsTrue (is_some (meter_at old meter))
  pub permitted : All (IsOfferedIn head.book) (sends_to head meter)
  pub new_is : new ≡ record (set_head old number (ticked_head head meter)) { sent = old.sent ++ sent_to number meter (sends_to head meter) }

-- a meter handles a datagram
pub record ServesAt (old : State) (d : Datagram) (new : State) : Type 0 where
  pub before : Meter
  pub after : Meter
  pub reply : Option (List ℕ)
  pub name : Option Name
  pub there : meter_at old d.meter ≡ Some before
  pub handles : Handles true IsTrue before d.bytes reply name after
  pub new_is : new ≡ record (set_meter old d.meter after) { sent = old.sent ++ replies d reply; activations = old.activations ++ activated d.meter name after }

-- a head end hears a datagram of a meter
pub record HearsAt (old : State) (d : Datagram) (new : State) : Type 0 where
  pub before : Head
  pub after : Head
  pub told : News
  pub there : head_at old d.head ≡ Some before
  pub is_head : IsHead before
  pub hears : HeadHears before d.meter d.bytes told after
  pub done : (campaign : Campaign) (meter : ℕ) → (told ≡ news.Done campaign meter) ↔ ((meter ≡ d.meter) × IsDoneBy before meter d.bytes campaign)
  pub new_is : new ≡ set_head old d.head after

abbrev pub DeliversAt : Direction → State → Datagram → State → Type 0
DeliversAt ToMeter old d new = ServesAt old d new
DeliversAt ToHead old d new = HearsAt old d new

-- A meter stops while it handles a datagram, after `calls` calls of its store, with the byte `torn` in what was being written. Then it is
-- opened again.
pub record StopsIn (old : State) (d : Datagram) (calls torn : ℕ) (new : State) : Type 0 where
  pub before : Meter
  pub after : Meter
  pub name : Option Name
  pub there : meter_at old d.meter ≡ Some before
  pub stops : StopsAfter calls torn before d.bytes name after
  pub new_is : new ≡ record (set_meter old d.meter (image.restarted after)) { activations = old.activations ++ activated d.meter name after }

-- a meter that stops after `calls` calls of its store while it restarts, and is opened with the header that is there
abbrev pub restarted_within : ℕ → Meter → Meter
restarted_within calls m = if nat_le (restart_calls m) calls then image.restarted m else reopened m

abbrev pub StateStep : State → Event → State → Type 0
StateStep old (open_campaign campaign release image meters) new = OpensAt old campaign release image meters new
StateStep old (cancel_campaign campaign) new = CancelsAt old campaign new
StateStep old (tick head meter) new = TicksAt old head meter new
StateStep old (deliver number) new = (d : Datagram) × (slice_get old.sent number ≡ Some d) × DeliversAt d.direction old d new
StateStep old (stop number calls torn) new = (d : Datagram) × (slice_get old.sent number ≡ Some d) × (d.direction ≡ ToMeter) × StopsIn old d calls torn new
StateStep old (restart_meter number) new = (meter : Meter) × (meter_at old number ≡ Some meter) × (new ≡ set_meter old number (image.restarted meter))
StateStep old (stop_restart number calls torn) new =
    (meter : Meter) × (meter_at old number ≡ Some meter) × (new ≡ set_meter old number (restarted_within calls meter))
StateStep old (restart_head number) new = (head : Head) × (head_at old number ≡ Some head) × (new ≡ set_head old number (restarted head))
StateStep old (turn number) new =
    (before : Meter) × (after : Meter) × (meter_at old number ≡ Some before) × Turn true before true after × (new ≡ set_meter old number after)

abbrev pub StateRun : State → List Event → State → Type 0
StateRun = RunBy StateStep
