-- Public vocabulary: the daemon of a head end as a value.
use Rattle.std.specs.Prelude.{◌≡◌, ◌≢◌, ℕ, Bool, false, List, [], ◌∷◌, ◌++◌, map, All, Contains, Some, None, is_some, slice_get, sum_by, count_by, ◌⊎◌, ◌+◌, ◌≤◌, Result, OnOk, OnErr, IsTrue}
use Rattle.fw_book.specs.Contents.{Contents}
use Rattle.fw_book.specs.Notes.{Known, with_ending}
use Rattle.fw_head.specs.Head.{Head, row_of}
use Rattle.fw_journal.specs.declared.device.JournalDevice
use Rattle.fw_kept.specs.Head.{Holds, head_of, known_of}
use Rattle.fw_kept.specs.declared.head.KeptHead.{KeptHead}
use Rattle.fw_rollout.specs.declared.daemon.Counts.{Counts}
use Rattle.fw_rollout.specs.declared.daemon.HeadDaemon.{HeadDaemon}
use Rattle.fw_rollout.specs.declared.daemon.Heard.{Heard}
use Rattle.fw_rollout.specs.declared.daemon.Heard.TheVariants as returned
use Rattle.fw_rollout.specs.declared.ended.Ended.{Ended}
use Rattle.fw_rollout.specs.declared.link.Listed.{Listed}
use Rattle.fw_rollout.specs.declared.link.Link.{Link}
use Rattle.fw_rollout.specs.declared.timing.Timing.{Timing}
use Rattle.fw_rollout.specs.declared.link.Turn.TheVariants as turns
use Rattle.std.specs.declared.net.socket_addr.SocketAddr.{SocketAddr}
use Rattle.fw_port.specs.declared.port.Port
use Rattle.fw_rollout.specs.Acts.{Act}
use Rattle.fw_rollout.specs.declared.link.Answer.{Answer}
use Rattle.fw_rollout.specs.Early.{IsAnswerOf}
use Rattle.fw_rollout.specs.Counting.{CountsTold, TellsCounted, counted_of}
use Rattle.fw_rollout.specs.Leading.{HasLed, IsNotedIn, Leader, Leads, MayLead}
use Rattle.fw_rollout.specs.Link.{IsReadyBy, after, out_by}
use Rattle.fw_rollout.specs.Schedule.{Answers, IsDueAt, IsSchedule, links_of, listed_of, lives_of, resent_in}

-- no number and no address stands twice
abbrev pub IsList : List Listed → Type 0
IsList [] = Unit {0}
IsList (at ∷ others) =
    ((other : Listed) → Contains others other → (other.meter ≢ at.meter) × (other.address ≢ at.address)) × IsList others

-- the meters that the daemon asks
abbrev pub meters_of : {D : Type 0} → HeadDaemon D → List Listed
meters_of daemon = listed_of daemon.schedule

-- the head end that it has, with its book
abbrev pub kept_of : {D : Type 0} → HeadDaemon D → KeptHead D
kept_of daemon = daemon.kept

-- how many datagrams are out: sent, and neither answered nor given up
abbrev pub out_of : {D : Type 0} → HeadDaemon D → ℕ
out_of daemon = daemon.schedule.out

-- how many may be
abbrev pub flight_of : {D : Type 0} → HeadDaemon D → ℕ
flight_of daemon = daemon.schedule.timing.flight

-- how it waits for answers, and how many datagrams may be out
abbrev pub timing_of : {D : Type 0} → HeadDaemon D → Timing
timing_of daemon = daemon.schedule.timing

-- the places in the list of the meters that may be asked now, the next one first. The rows of some may have ended meanwhile.
abbrev pub queue_of : {D : Type 0} → HeadDaemon D → List ℕ
queue_of daemon = daemon.schedule.ready.items

-- the meter at this place of the list may be asked now
abbrev pub IsDueNow : {D : Type 0} → HeadDaemon D → ℕ → Type 0
IsDueNow daemon place = IsDueAt daemon.schedule place

-- or at this time, where what is waited for no longer is given up
abbrev pub IsDueBy : {D : Type 0} → ℕ → HeadDaemon D → ℕ → Type 0
IsDueBy now daemon place = (link : Link) × (slice_get (links_of daemon.schedule) place ≡ Some link) × IsReadyBy now link

-- a meter of the list, with its address, may be asked at this time
pub record IsAskedBy {D : Type 0} (now : ℕ) (daemon : HeadDaemon D) (at : Listed) : Type 0 where
  pub place : ℕ
  pub there : slice_get (meters_of daemon) place ≡ Some at
  pub due : IsDueBy now daemon place

-- What was sent to a meter of the list counts as out since this time, and nothing came since then.
pub record IsOutSince {D : Type 0} (now count : ℕ) (daemon : HeadDaemon D) (at : Listed) : Type 0 where
  pub place : ℕ
  pub link : Link
  pub there : slice_get (links_of daemon.schedule) place ≡ Some link
  pub is : link.at ≡ at
  pub sent : link.sent_at ≡ now
  pub out : link.out ≡ count
  pub waits : link.turn ≡ turns.Awaited (after now link.wait)
  pub unheard : link.is_heard ≡ false

-- The row of the meter with this address took a datagram as an answer. When the meter is asked again follows from what the datagram leaves
-- of what was asked, and of the other meters nothing changed.
pub record TakesAnswer {D : Type 0} (now : ℕ) (from : SocketAddr) (datagram : List ℕ) (old new : HeadDaemon D) : Type 0 where
  pub place : ℕ
  pub meter : ℕ
  pub there : slice_get (meters_of old) place ≡ Some (record { meter = meter; address = from })
  pub answer : Answer
  pub leaves : IsAnswerOf (head_of (kept_of new)) meter datagram answer
  pub goes_on : Answers place now answer old.schedule new.schedule

-- how many datagrams are out at this time
abbrev pub out_at : {D : Type 0} → ℕ → HeadDaemon D → ℕ
out_at now daemon = sum_by (λ (link : Link). out_by now link) (links_of daemon.schedule)

-- the rows of how many meters are ticked again at this time since no answer came, or not all of them
abbrev pub resent_at : {D : Type 0} → ℕ → HeadDaemon D → ℕ
resent_at now daemon = resent_in now (links_of daemon.schedule)

-- the rows that ended and are not on the device yet
abbrev pub ended_of : {D : Type 0} → HeadDaemon D → List Ended
ended_of daemon = daemon.ended.items

-- what is known of the book beside its states
abbrev pub noted_in : {D : Type 0} → HeadDaemon D → Known
noted_in daemon = known_of (kept_of daemon)

-- One row more ended, at this time, and is noted so beside the book. Or none ended, and nothing is noted.
abbrev pub EndsOneAt : {D : Type 0} → ℕ → HeadDaemon D → HeadDaemon D → Type 0
EndsOneAt at old new =
    ((ended_of new ≡ ended_of old) × (noted_in new ≡ noted_in old))
    ⊎ ((one : Ended) × (ended_of new ≡ ended_of old ++ one ∷ []) × (one.end.at ≡ at)
    × (noted_in new ≡ with_ending (noted_in old) one.campaign.serial one.meter one.end))

-- since when they wait, once a row ended at this time besides these
abbrev pub since_with : ℕ → List Ended → ℕ → ℕ
since_with now [] since = now
since_with now (ended ∷ others) since = since

-- or once this came of a datagram
abbrev pub since_after : Heard → ℕ → List Ended → ℕ → ℕ
since_after returned.Ended now unsaved since = since_with now unsaved since
since_after what now unsaved since = since

-- when the oldest of them ended
abbrev pub since_of : {D : Type 0} → HeadDaemon D → ℕ
since_of daemon = daemon.held_since

-- how far the head end is
abbrev pub counts_of : {D : Type 0} → HeadDaemon D → Counts
counts_of daemon = record daemon.counts { live = daemon.schedule.live; resends = daemon.schedule.resends }

-- no link is live, and nothing that ended waits to be put on the device
pub record HasRunOut {D : Type 0} (daemon : HeadDaemon D) : Type 0 where
  pub live : (counts_of daemon).live ≡ 0
  pub ended : ended_of daemon ≡ []

-- which of these meters have a live row
abbrev pub live_of : Head → List Listed → List Bool
live_of head meters = map (λ (at : Listed). is_some (row_of head.rows at.meter)) meters

-- The daemon between two steps. Its book is kept on a device of which this is known.
pub record IsLed {D : Type 0} (honest : D → Bool) (contents : D → List ℕ) (may_leave : D → List ℕ → Type 0) (daemon : HeadDaemon D) (leader : Leader) : Type 0 where
  pub holds : Holds honest contents may_leave (kept_of daemon) leader.synced
  pub meters : leader.meters ≡ meters_of daemon
  pub list : IsList leader.meters
  pub head : leader.head ≡ head_of (kept_of daemon)
  pub unsaved : leader.unsaved ≡ ended_of daemon
  pub noted : All (IsNotedIn leader.head.book) leader.unsaved
  pub schedule : IsSchedule daemon.schedule
  -- a link is live exactly if its meter has a live row
  pub lives : lives_of daemon.schedule ≡ live_of leader.head leader.meters

-- a head end that begins to lead these meters
abbrev pub new_leader : List Listed → Head → Contents → Leader
new_leader meters head synced =
    record { meters = meters; head = head; synced = synced; going = []; unsaved = []; untold = [] }

-- no meter of the list has a live row, and all that ended is on the device
pub record IsOver (leader : Leader) : Type 0 where
  pub saved_all : leader.unsaved ≡ []
  pub no_row : All (λ (at : Listed). row_of leader.head.rows at.meter ≡ None) leader.meters

-- how many meters of the list have a live row
abbrev pub live_rows : Leader → ℕ
live_rows leader = count_by (λ (at : Listed). is_some (row_of leader.head.rows at.meter)) leader.meters

-- the longest that the mark of a row that ended waits for others, in microseconds
abbrev pub hold : ℕ
hold = 100000

-- rows that ended wait to be put on the device, the oldest since this time, and no row is live or it waited for long enough
pub record IsSaveDue (now since : ℕ) (leader : Leader) : Type 0 where
  pub some : leader.unsaved ≢ []
  pub due : All (λ (at : Listed). row_of leader.head.rows at.meter ≡ None) leader.meters ⊎ (since + hold ≤ now)

-- no marks wait that are due at this time
abbrev pub NoneDue : {D : Type 0} → JournalDevice.Ghosts D → ℕ → HeadDaemon D → Type 0
NoneDue J now daemon = (leader : Leader) → IsLed J.honest J.contents J.may_leave daemon leader → ¬ IsSaveDue now (since_of daemon) leader

-- nothing is about to be sent or reported
pub record Rests (leader : Leader) : Type 0 where
  pub sent_all : leader.going ≡ []
  pub told_all : leader.untold ≡ []

-- the daemon is that of some head end which may do what it does after what was done
pub record Begins {D : Type 0} (honest : D → Bool) (contents : D → List ℕ) (may_leave : D → List ℕ → Type 0) (daemon : HeadDaemon D) (legal : List Act → Type 0) (before : List Act) : Type 0 where
  pub leader : Leader
  pub led : IsLed honest contents may_leave daemon leader
  pub rests : Rests leader
  pub may : MayLead legal leader before

-- From start, after what was done before, the head end did this, and the daemon is its own then.
pub record GoesOn {D : Type 0} (honest : D → Bool) (contents : D → List ℕ) (may_leave : D → List ℕ → Type 0) (start : Leader) (before after : List Act) (daemon : HeadDaemon D) : Type 0 where
  pub now : Leader
  pub leads : Leads start before after now
  pub led : IsLed honest contents may_leave daemon now
  pub rests : Rests now

-- ---- over a port

-- An honest port is had only over a device of which it is known what it keeps, and what a head end does that is as this one may be done.
abbrev pub MayLeadOver : {P D : Type 0} → Port.Ghosts P Ended → JournalDevice.Ghosts D → P → HeadDaemon D → Type 0
MayLeadOver N J port daemon = IsTrue (N.honest port) → Begins J.honest J.contents J.may_leave daemon (N.legal port) (N.acts port)

-- A call of the loop over a port, or of a part of it. What was done over an honest port a head end did, and after an `Ok` the daemon is its
-- own then. The port stays as honest as it was, and lets through what it would have.
pub record LeadsOver {P D T E : Type 0} (N : Port.Ghosts P Ended) (J : JournalDevice.Ghosts D) (old : P) (before : HeadDaemon D) (result : Result T E) (new : P) (after : HeadDaemon D) : Type 0 where
  pub leads : IsTrue (N.honest old) → (start : Leader) → IsLed J.honest J.contents J.may_leave before start → Rests start
      → OnOk result (GoesOn J.honest J.contents J.may_leave start (N.acts old) (N.acts new) after)
  pub leads_err : IsTrue (N.honest old) → (start : Leader) → IsLed J.honest J.contents J.may_leave before start → Rests start → OnErr result (HasLed start (N.acts old) (N.acts new))
  -- what it counted as done and as given up is what was reported
  pub counts : IsTrue (N.honest old) → CountsTold (N.acts old) (N.acts new) (counted_of before) (counted_of after)
  -- and so it is of any port
  pub tells : TellsCounted N.tells old new (counted_of before) (counted_of after)
  pub honesty : N.honest new ≡ N.honest old
  pub law : (done : List Act) → N.legal old done → N.legal new done
