-- Public vocabulary: which row a head end asks next, by its plan, and which row it gives up.
use Rattle.std.specs.Prelude.{◌≡◌, ◌⊎◌, ℕ, false, List, [], ◌∷◌, ◌++◌, Option, Some, None, Contains, is_some, slice_get, if◌then◌else◌}
use Rattle.std.specs.Option.{option_map}
use Rattle.std.specs.declared.net.socket_addr.SocketAddr.{SocketAddr}
use Rattle.fw_book.specs.declared.row.RowState.TheVariants as state
use Rattle.fw_book.specs.declared.phase.Phase.{Phase}
use Rattle.fw_head.specs.Phase.{phase_of}
use Rattle.fw_head.specs.Row.{Row}
use Rattle.fw_head.specs.Head.{GivesUpRow, Head, activates_at, row_of}
use Rattle.fw_head.specs.declared.giving_up.GivenUp.{GivenUp}
use Rattle.fw_head.specs.declared.giving_up.WhyGivenUp.TheVariants as why
use Rattle.fw_kept.specs.Head.{head_of}
use Rattle.fw_ledger.specs.declared.record.Ending.TheVariants as ends
use Rattle.fw_plan.specs.Silence.{GivesUp}
use Rattle.fw_plan.specs.Window.{IsLetBy}
use Rattle.fw_plan.specs.declared.deadline.Contact.{Contact}
use Rattle.fw_rollout.specs.declared.daemon.Due.{Due}
use Rattle.fw_rollout.specs.declared.daemon.HeadDaemon.{HeadDaemon}
use Rattle.fw_rollout.specs.declared.daemon.Heard.{Heard}
use Rattle.fw_rollout.specs.declared.daemon.Heard.TheVariants as returned
use Rattle.fw_rollout.specs.declared.daemon.Next.{Next}
use Rattle.fw_rollout.specs.declared.daemon.Next.TheVariants as next
use Rattle.fw_rollout.specs.declared.ended.Ended.{Ended}
use Rattle.fw_rollout.specs.declared.link.Listed.{Listed}
use Rattle.fw_rollout.specs.declared.plan.Plan.{Plan}
use Rattle.fw_rollout.specs.Contacts as contacts
use Rattle.fw_rollout.specs.Contacts.{contact_in, heard_in, seconds_of}
use Rattle.fw_rollout.specs.Laps as laps
use Rattle.fw_rollout.specs.Laps.{IsRestedIn, lap_in, laps_gone, nowhere_between}
use Rattle.fw_rollout.specs.declared.stuck.Stuck.{Stuck}
use Rattle.fw_rollout.specs.declared.laps.Lap.{Lap}
use Rattle.fw_rollout.specs.Daemon.{kept_of, meters_of}
use Rattle.fw_rollout.specs.Leading.{IsListed, Leader}

-- ---- the daemon

abbrev pub plan_of : {D : Type 0} → HeadDaemon D → Plan
plan_of daemon = daemon.plan

-- the contacts with the meters of its list, by their places
abbrev pub contacts_of : {D : Type 0} → HeadDaemon D → List Contact
contacts_of daemon = contacts.contacts_of daemon.contacts

-- the laps of the rows of these meters
abbrev pub laps_of : {D : Type 0} → HeadDaemon D → List Lap
laps_of daemon = laps.laps_of daemon.laps

-- ---- the row that is the next

-- what is known if it is asked, and what else
abbrev pub MatchNext : Next → (Due → Type 0) → Type 0 → Type 0
MatchNext (next.Asks due) asks other = asks due
MatchNext next.Waits asks other = other
MatchNext (next.Silent at) asks other = other
MatchNext next.Nobody asks other = other

-- what is known if it is asked
abbrev pub IfAsks : Next → (Due → Type 0) → Type 0
IfAsks what asks = MatchNext what asks (Unit {0})

-- if no row may be asked
abbrev pub IfNobody : Next → Type 0 → Type 0
IfNobody (next.Asks due) known = Unit {0}
IfNobody next.Waits known = Unit {0}
IfNobody (next.Silent at) known = Unit {0}
IfNobody next.Nobody known = known

-- if it waits
abbrev pub IfWaits : Next → Type 0 → Type 0
IfWaits (next.Asks due) known = Unit {0}
IfWaits next.Waits known = known
IfWaits (next.Silent at) known = Unit {0}
IfWaits next.Nobody known = Unit {0}

-- if its meter is silent for too long
abbrev pub IfSilent : Next → (Listed → Type 0) → Type 0
IfSilent (next.Asks due) known = Unit {0}
IfSilent next.Waits known = Unit {0}
IfSilent (next.Silent at) known = known at
IfSilent next.Nobody known = Unit {0}

-- the window of the daemon lets the row of this meter be asked at this date
abbrev pub IsLet : {D : Type 0} → HeadDaemon D → ℕ → ℕ → Type 0
IsLet daemon date meter = IsLetBy (plan_of daemon).window date (activates_at (head_of (kept_of daemon)) meter)

-- it asks the same meters by the same plan, and knows the same of when they were asked and heard
pub record KnowsSame {D : Type 0} (old new : HeadDaemon D) : Type 0 where
  pub meters : meters_of new ≡ meters_of old
  pub contacts : contacts_of new ≡ contacts_of old
  pub plan : plan_of new ≡ plan_of old

-- the meter at this place of the list is silent for too long
abbrev pub IsSilentAt : {D : Type 0} → HeadDaemon D → ℕ → ℕ → Type 0
IsSilentAt daemon now place = GivesUp (plan_of daemon).deadline state.Live (contact_in (contacts_of daemon) place) (seconds_of now)

-- the row of the meter at this place of the list has rested after its last lap that got nowhere
abbrev pub IsRestedAt : {D : Type 0} → HeadDaemon D → ℕ → ℕ → Type 0
IsRestedAt daemon now place = IsRestedIn (laps_of daemon) now place

-- a row waits at this time and date: it is of a meter of the list, and the window doesn't let it be asked, or it hasn't rested
pub record IsWaitedFor {D : Type 0} (daemon : HeadDaemon D) (now date : ℕ) : Type 0 where
  pub place : ℕ
  pub at : Listed
  pub there : slice_get (meters_of daemon) place ≡ Some at
  pub held : ¬ (IsLet daemon date at.meter × IsRestedAt daemon now place)

-- a meter of the list, with its address, is silent for too long
pub record IsSilent {D : Type 0} (daemon : HeadDaemon D) (now : ℕ) (at : Listed) : Type 0 where
  pub place : ℕ
  pub there : slice_get (meters_of daemon) place ≡ Some at
  pub silent : IsSilentAt daemon now place

-- a meter of the list is asked: the window lets its row be asked, which has rested, it isn't silent for too long, and it owes an answer from
-- now on
pub record IsAskedAs {D : Type 0} (old : HeadDaemon D) (now date : ℕ) (due : Due) (new : HeadDaemon D) : Type 0 where
  pub place : ℕ
  pub there : slice_get (meters_of old) place ≡ Some (record { meter = due.meter; address = due.to })
  pub let_so : IsLet old date due.meter
  pub rested : IsRestedAt old now place
  pub heard : ¬ IsSilentAt old now place
  pub owes : contacts_of new ≡ contacts.asked_in place (seconds_of now) (contacts_of old)

-- ---- what is heard

-- something was heard of the meter with this address
pub record HearsOf {D : Type 0} (now : ℕ) (from : SocketAddr) (old new : HeadDaemon D) : Type 0 where
  pub place : ℕ
  pub meter : ℕ
  pub there : slice_get (meters_of old) place ≡ Some (record { meter = meter; address = from })
  pub heard : contacts_of new ≡ heard_in place (seconds_of now) (contacts_of old)

-- a datagram says that its meter isn't silent, whatever its bytes are; one of a stranger says nothing
abbrev pub NotesContact : {D : Type 0} → Heard → ℕ → SocketAddr → HeadDaemon D → HeadDaemon D → Type 0
NotesContact returned.Stranger now from old new = contacts_of new ≡ contacts_of old
NotesContact what now from old new = HearsOf now from old new

-- ---- laps that get nowhere

-- where the live row of a meter is, if the meter has one
abbrev pub phase_at : Head → ℕ → Option Phase
phase_at head meter = option_map (λ (row : Row). phase_of row.stage) (row_of head.rows meter)

-- the row of a meter that came from this phase, as it is told
abbrev pub stuck_at : Head → ℕ → Option Phase → Option Stuck
stuck_at head meter (Some from) =
    option_map (λ (row : Row). (let stuck : Stuck = record { campaign = row.name.campaign; meter = meter; from = from } in stuck)) (row_of head.rows meter)
stuck_at head meter None = None

-- if its lap ends and got nowhere
abbrev pub stuck_by : Lap → Head → ℕ → Option Phase → Option Phase → Option Stuck
stuck_by lap head meter from to = if nowhere_between from to lap then stuck_at head meter from else None

-- the row that is told to have got nowhere, if one did by the datagram that came last
abbrev pub stuck_of : {D : Type 0} → HeadDaemon D → Option Stuck
stuck_of daemon = daemon.stuck

-- a datagram of the meter with this address led its row from one phase to another
pub record GoesOnInLap {D : Type 0} (now : ℕ) (from : SocketAddr) (old new : HeadDaemon D) : Type 0 where
  pub place : ℕ
  pub meter : ℕ
  pub there : slice_get (meters_of old) place ≡ Some (record { meter = meter; address = from })
  pub gone : laps_of new ≡ laps_gone place now (phase_at (head_of (kept_of old)) meter) (phase_at (head_of (kept_of new)) meter) (laps_of old)
  pub told : stuck_of new ≡ stuck_by (lap_in (laps_of old) place) (head_of (kept_of new)) meter (phase_at (head_of (kept_of old)) meter) (phase_at (head_of (kept_of new)) meter)

-- an answer tells how the row is getting on in its lap, and any other datagram tells nothing of it
abbrev pub NotesLap : {D : Type 0} → Heard → ℕ → SocketAddr → HeadDaemon D → HeadDaemon D → Type 0
NotesLap returned.Moved now from old new = GoesOnInLap now from old new
NotesLap what now from old new = (laps_of new ≡ laps_of old) × (stuck_of new ≡ None)

-- ---- a row that is given up

-- such a row, of a meter, that ended at this time
abbrev pub given_up_at : ℕ → ℕ → GivenUp → Ended
given_up_at at meter given =
    record { campaign = given.campaign; meter = meter; ending = ends.Failed; end = record { at = at; reason = Some given.reason } }

-- The row of a meter at this address is given up since the meter is silent. It ended at this time, and waits to be put on the device as one
-- that failed.
pub record GivesUpAt (old : Leader) (address : SocketAddr) (at : ℕ) (new : Leader) : Type 0 where
  pub meter : ℕ
  pub given : GivenUp
  pub listed : IsListed old meter address
  pub gives : GivesUpRow old.head meter why.Silent given new.head
  pub others : new ≡ record old {
    head = new.head;
    unsaved = old.unsaved ++ given_up_at at meter given ∷ [];
  }

-- There is no row to be given up at this address: no meter of the list has it, or the one that has it isn't silent for too long, or has no
-- live row.
abbrev pub GivesUpNone : {D : Type 0} → HeadDaemon D → ℕ → SocketAddr → Type 0
GivesUpNone daemon now address =
    ((meter : ℕ) → ¬ Contains (meters_of daemon) (record { meter = meter; address = address }))
    ⊎ ((place : ℕ) × (meter : ℕ) × (slice_get (meters_of daemon) place ≡ Some (record { meter = meter; address = address }))
    × ((¬ IsSilentAt daemon now place) ⊎ (is_some (row_of (head_of (kept_of daemon)).rows meter) ≡ false)))

-- ---- a list that is followed by another

-- the head end asks other meters from now on
abbrev pub with_meters : List Listed → Leader → Leader
with_meters meters leader = record leader { meters = meters }
