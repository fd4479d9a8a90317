-- For private clauses alone: the links of all meters, which of them may be ticked now, and what each call makes of them.
use Rattle.std.specs.Prelude.{◌≡◌, ◌⊎◌, ◌↔◌, ℕ, ◌<◌, ◌≤◌, ◌==◌, ◌^◌, Bool, true, false, List, [], ◌∷◌, ◌++◌, map, Option, Some, None, Contains, MatchOption, slice_get, slice_set, sum_by, count_by, if◌then◌else◌}
use Rattle.std.specs.declared.net.socket_addr.SocketAddr.{SocketAddr}
use Rattle.fw_rollout.specs.Link.{IsAnswered, IsGivenUp, IsHeld, IsLiveLink, IsNewLink, IsReady, IsSent, is_expired, is_resent, lacks_answer, until_of}
use Rattle.fw_rollout.specs.Timing.{most_out}
use Rattle.fw_rollout.specs.Counting.{one_more}
use Rattle.fw_rollout.specs.declared.link.Answer.{Answer}
use Rattle.fw_rollout.specs.declared.link.Link.{Link}
use Rattle.fw_rollout.specs.declared.link.Listed.{Listed}
use Rattle.fw_rollout.specs.declared.link.Turn.{Turn}
use Rattle.fw_rollout.specs.declared.link.Turn.TheVariants as turns
use Rattle.fw_rollout.specs.declared.schedule.Schedule.{Schedule}

abbrev pub links_of : Schedule → List Link
links_of s = s.links.items

-- the meters of the links and their addresses, in the order of the links
abbrev pub listed_of : Schedule → List Listed
listed_of s = map (λ (link : Link). link.at) (links_of s)

-- whether the meter has a live row
abbrev pub is_live_turn : Turn → Bool
is_live_turn turns.Over = false
is_live_turn turns.Ready = true
is_live_turn (turns.Awaited until) = true
is_live_turn (turns.Silent until) = true
is_live_turn (turns.Paused until) = true

abbrev pub is_live : Link → Bool
is_live link = is_live_turn link.turn

-- which of the links are live, in their order
abbrev pub lives_of : Schedule → List Bool
lives_of s = map is_live (links_of s)

-- the link at this place has this address
abbrev pub IsPlaceOf : List Link → SocketAddr → ℕ → Type 0
IsPlaceOf links address place = (link : Link) × (slice_get links place ≡ Some link) × (link.at.address ≡ address)

-- some link has this address
abbrev pub HasAddress : List Link → SocketAddr → Type 0
HasAddress links address = (place : ℕ) × IsPlaceOf links address place

-- the link at this place may be ticked
abbrev pub IsDueAt : Schedule → ℕ → Type 0
IsDueAt s place = (link : Link) × (slice_get (links_of s) place ≡ Some link) × IsReady link

-- the meter of the link at this place has a live row
abbrev pub IsLiveAt : Schedule → ℕ → Type 0
IsLiveAt s place = (link : Link) × (slice_get (links_of s) place ≡ Some link) × IsLiveLink link

-- the link at this place waits until this time
abbrev pub IsWaitingAt : List Link → ℕ → ℕ → Type 0
IsWaitingAt links place until = (link : Link) × (slice_get links place ≡ Some link) × (until_of link.turn ≡ Some until)

-- what was sent counts as out
abbrev pub IsAwaited : Turn → Type 0
IsAwaited turns.Over = ⊥
IsAwaited turns.Ready = ⊥
IsAwaited (turns.Awaited until) = Unit {0}
IsAwaited (turns.Silent until) = ⊥
IsAwaited (turns.Paused until) = ⊥

-- the rows of how many links are ticked again at this time since no answer came
abbrev pub resent_in : ℕ → List Link → ℕ
resent_in now links = count_by (λ (link : Link). is_resent now link) links

-- one more is counted where a link waits no more and didn't pause
abbrev pub resends_after : Bool → Option ℕ → ℕ → ℕ
resends_after true until n = n
resends_after false None n = one_more n
resends_after false (Some until) n = n

-- so many are counted once what was waited for is given up
abbrev pub with_resend : ℕ → Link → ℕ → ℕ
with_resend now link n = if lacks_answer now link then one_more n else n

abbrev pub CountsResend : ℕ → ℕ → Schedule → Schedule → Type 0
CountsResend place now old new =
    MatchOption (slice_get (links_of old) place) (new.resends ≡ old.resends) (λ link. new.resends ≡ with_resend now link old.resends)

-- how often a place stands in a list of places
abbrev pub times : ℕ → List ℕ → ℕ
times place places = count_by (λ (other : ℕ). place == other) places

-- how often a link stands in the queue: once if it may be ticked, and not where it waits. One that ended may be left there.
abbrev pub QueuesTurn : Turn → ℕ → Type 0
QueuesTurn turns.Over n = n ≤ 1
QueuesTurn turns.Ready n = n ≡ 1
QueuesTurn (turns.Awaited until) n = n ≡ 0
QueuesTurn (turns.Silent until) n = n ≡ 0
QueuesTurn (turns.Paused until) n = n ≡ 0

abbrev pub Queues : Option Link → ℕ → Type 0
Queues None n = n ≡ 0
Queues (Some link) n = QueuesTurn link.turn n

-- the link at this place is the next in the queue
abbrev pub IsFirst : Schedule → ℕ → Type 0
IsFirst s place = slice_get s.ready.items 0 ≡ Some place

-- What every schedule keeps: how many datagrams are out and how many links are live, the time of each link that waits, the place of each
-- address, and the queue of the links that may be ticked.
pub record IsSchedule (s : Schedule) : Type 0 where
  pub flight_fits : s.timing.flight < 2 ^ 64
  pub counts_live : s.live ≡ count_by is_live (links_of s)
  pub counts_out : s.out ≡ sum_by (λ (link : Link). link.out) (links_of s)
  pub within : s.out ≤ most_out s.timing.flight
  pub awaited : (place : ℕ) (link : Link) → slice_get (links_of s) place ≡ Some link → IsAwaited link.turn ⊎ (link.out ≡ 0)
  pub waits : (place until : ℕ) → Contains s.waiting.keys (until, place) ↔ IsWaitingAt (links_of s) place until
  pub addressed : (address : SocketAddr) (place : ℕ) → Contains s.places.entries (address, place) ↔ IsPlaceOf (links_of s) address place
  pub queue : (place : ℕ) → Queues (slice_get (links_of s) place) (times place s.ready.items)

-- the same meters at the same addresses, with the same of them live
pub record SameMeters (old new : Schedule) : Type 0 where
  pub timing : new.timing ≡ old.timing
  pub listed : listed_of new ≡ listed_of old
  pub lives : lives_of new ≡ lives_of old

-- the meter of the link at this place has no live row any more, and of the others nothing changed
pub record EndsMeter (place : ℕ) (old new : Schedule) : Type 0 where
  pub timing : new.timing ≡ old.timing
  pub listed : listed_of new ≡ listed_of old
  pub lives : lives_of new ≡ slice_set (lives_of old) place false

-- the link at a place went on, and no other
pub record GoesOnAt (place : ℕ) (goes : Link → Link → Type 0) (old new : Schedule) : Type 0 where
  pub timing : new.timing ≡ old.timing
  pub there : MatchOption (slice_get (links_of old) place) (links_of new ≡ links_of old)
      (λ link. (next : Link) × goes link next × (links_of new ≡ slice_set (links_of old) place next))

-- a new link is there, at the end
abbrev pub Adds : Listed → Bool → Schedule → Schedule → Type 0
Adds at is_live old new = (link : Link) × IsNewLink at is_live old.timing.resend link × (links_of new ≡ links_of old ++ link ∷ [])

abbrev pub Sends : ℕ → ℕ → ℕ → Schedule → Schedule → Type 0
Sends place now count old new = GoesOnAt place (λ link next. IsSent now count link next) old new

abbrev pub Holds : ℕ → ℕ → Schedule → Schedule → Type 0
Holds place now old new = GoesOnAt place (λ link next. IsHeld now link next) old new

abbrev pub Answers : ℕ → ℕ → Answer → Schedule → Schedule → Type 0
Answers place now answer old new =
    GoesOnAt place (λ link next. (answered : ℕ) × IsAnswered now old.timing.resend answer link answered next) old new

abbrev pub GivesUp : ℕ → ℕ → Schedule → Schedule → Type 0
GivesUp place now old new = GoesOnAt place (λ link next. (given_up : ℕ) × IsGivenUp now link given_up next) old new

abbrev pub EndsAt : ℕ → Schedule → Schedule → Type 0
EndsAt place old new = GoesOnAt place (λ link next. (next.out ≡ 0) × (next.turn ≡ turns.Over) × (next.at ≡ link.at)) old new

-- the link at a place waits until this time too, if there is one
pub record Waits (place : ℕ) (until : Option ℕ) (old new : Schedule) : Type 0 where
  pub others : new ≡ record old { waiting = new.waiting }
  pub waits : (other time : ℕ) → Contains new.waiting.keys (time, other)
      ↔ (((other ≡ place) × (until ≡ Some time)) ⊎ Contains old.waiting.keys (time, other))

-- the link at a place doesn't wait until this time any more
pub record WaitsNoMore (place : ℕ) (until : Option ℕ) (old new : Schedule) : Type 0 where
  pub others : new ≡ record old { waiting = new.waiting }
  pub waits : (other time : ℕ) → Contains new.waiting.keys (time, other)
      ↔ (¬ ((other ≡ place) × (until ≡ Some time)) × Contains old.waiting.keys (time, other))

-- what stands in the queue of a link whose time this is
abbrev pub queued_of : ℕ → Option ℕ → List ℕ
queued_of place None = place ∷ []
queued_of place (Some until) = []

-- the link at a place, which waited until a time, waits until another now, or stands in the queue
pub record Turns (place : ℕ) (was until : Option ℕ) (old new : Schedule) : Type 0 where
  pub middle : Schedule
  pub last : Schedule
  pub waits_no_more : WaitsNoMore place was old middle
  pub waits : Waits place until middle last
  pub others : new ≡ record last { ready = new.ready }
  pub queued : new.ready.items ≡ old.ready.items ++ queued_of place until

-- what a link is once what was waited for until now is given up
abbrev pub SettlesLink : ℕ → Option Link → Option Link → Type 0
SettlesLink now None new = new ≡ None
SettlesLink now (Some link) new =
    (next : Link) × (new ≡ Some next)
    × ((next ≡ link) ⊎ ((is_expired now link ≡ true) × ((given_up : ℕ) × IsGivenUp now link given_up next)))

-- what was waited for until now is given up, of each link
pub record Settles (now : ℕ) (old new : Schedule) : Type 0 where
  pub each : (place : ℕ) → SettlesLink now (slice_get (links_of old) place) (slice_get (links_of new) place)
  pub all : (place : ℕ) (link : Link) → slice_get (links_of new) place ≡ Some link → is_expired now link ≡ false
