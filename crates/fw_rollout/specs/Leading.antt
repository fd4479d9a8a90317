-- Public vocabulary: what a head end does, over all that comes, with its book on a device.
use Rattle.std.specs.Prelude.{◌≡◌, ◌⊎◌, ℕ, true, List, [], ◌∷◌, ◌++◌, map, All, Some, Contains, is_some}
use Rattle.std.specs.declared.net.socket_addr.SocketAddr.{SocketAddr}
use Rattle.fw_book.specs.declared.row.RowState.{RowState}
use Rattle.fw_book.specs.declared.row.RowState.TheVariants as state
use Rattle.fw_book.specs.Contents.{Contents, state_in}
use Rattle.fw_book.specs.declared.notes.End.{End}
use Rattle.fw_head.specs.declared.news.News.{News}
use Rattle.fw_head.specs.declared.news.News.TheVariants as news
use Rattle.fw_head.specs.Head.{Head, HeadHears, IsOfferedIn, TellsReason, row_of, sends_to, ticked_head}
use Rattle.fw_ledger.specs.declared.record.Ending.{Ending}
use Rattle.fw_ledger.specs.declared.record.Ending.TheVariants as ends
use Rattle.fw_rollout.specs.declared.daemon.Heard.{Heard}
use Rattle.fw_rollout.specs.declared.daemon.Heard.TheVariants as returned
use Rattle.fw_rollout.specs.declared.ended.Ended.{Ended}
use Rattle.fw_rollout.specs.declared.link.Listed.{Listed}
use Rattle.fw_port.specs.Acts.{came, quiet, sent, told}
use Rattle.fw_rollout.specs.Acts.{Act}

-- a head end, its book on the device, and what it is about to do
pub record Leader : Type 0 where
  -- the meters that it asks, and their addresses
  pub meters : List Listed
  -- the head end in memory
  pub head : Head
  -- the book that every power cut leaves
  pub synced : Contents
  -- what the last tick made and is not sent yet, with where it goes
  pub going : List (SocketAddr × List ℕ)
  -- the rows that ended and are not on the device yet, the oldest first
  pub unsaved : List Ended
  -- those that are, and are not reported yet
  pub untold : List Ended

pub data Step : Type 0 where
  -- a datagram came
  hears : SocketAddr → List ℕ → Step
  -- nothing came in time
  idles : Step
  -- the row of a meter is ticked
  ticks : ℕ → Step
  -- a datagram is sent
  sends : SocketAddr → List ℕ → Step
  -- the marks that wait are put on the device
  saves : Step
  -- a row that ended is reported
  tells : Ended → Step

-- how the book notes the end of a row
abbrev pub state_after : Ending → RowState
state_after ends.Done = state.Done
state_after ends.Failed = state.Failed

-- the row that ended, if one did, with when and why
abbrev pub ended_by : News → End → List Ended
ended_by news.Nothing end = []
ended_by news.Moved end = []
ended_by (news.Done campaign meter) end = record { campaign = campaign; meter = meter; ending = ends.Done; end = end } ∷ []
ended_by (news.Failed campaign meter) end = record { campaign = campaign; meter = meter; ending = ends.Failed; end = end } ∷ []

abbrev pub IsListed : Leader → ℕ → SocketAddr → Type 0
IsListed leader meter address = Contains leader.meters (record { meter = meter; address = address })

abbrev pub HasLiveRow : Leader → ℕ → Type 0
HasLiveRow leader meter = is_some (row_of leader.head.rows meter) ≡ true

-- A datagram from the address of a meter is heard as that meter's, whatever number its bytes have. A row that it gives up failed for the
-- reason that is told of it.
pub record HearsMeter (old : Leader) (from : SocketAddr) (datagram : List ℕ) (new : Leader) : Type 0 where
  pub meter : ℕ
  pub listed : IsListed old meter from
  pub heard : News
  pub end : End
  pub takes : HeadHears old.head meter datagram heard new.head
  pub tells : TellsReason old.head meter datagram heard end.reason
  pub others : new ≡ record old { head = new.head; unsaved = old.unsaved ++ ended_by heard end }

-- there is no memory for it, which is wanted only if the meter has a live row
pub record HearsNot (old : Leader) (from : SocketAddr) (datagram : List ℕ) (new : Leader) : Type 0 where
  pub meter : ℕ
  pub listed : IsListed old meter from
  pub live : HasLiveRow old meter
  pub same : new ≡ old

-- one from another address changes nothing
pub record HearsStranger (old : Leader) (from : SocketAddr) (new : Leader) : Type 0 where
  pub strange : (meter : ℕ) → ¬ IsListed old meter from
  pub same : new ≡ old

-- what is returned of what the row of a meter heard
abbrev pub heard_of : News → Heard
heard_of news.Nothing = returned.Nothing
heard_of news.Moved = returned.Moved
heard_of (news.Done campaign meter) = returned.Ended
heard_of (news.Failed campaign meter) = returned.Ended

-- A datagram was heard, and this is returned of it. Each is a step of a head end, below.
abbrev pub HearsAs : Leader → SocketAddr → List ℕ → Heard → Leader → Type 0
HearsAs old from datagram what new =
    ((hearing : HearsMeter old from datagram new) × (what ≡ heard_of hearing.heard)) ⊎ ((what ≡ returned.Stranger) × HearsStranger old from new)

-- what the row of a meter sends now is about to go to the address of that meter, once all that was is sent
pub record TicksMeter (old : Leader) (meter : ℕ) (new : Leader) : Type 0 where
  pub sent_all : old.going ≡ []
  pub to : SocketAddr
  pub listed : IsListed old meter to
  pub others : new ≡ record old {
    head = ticked_head old.head meter;
    going = map (λ (bytes : List ℕ). (to, bytes)) (sends_to old.head meter);
  }

-- the next datagram is sent, and the book on the device offers it
pub record SendsNext (old : Leader) (to : SocketAddr) (bytes : List ℕ) (new : Leader) : Type 0 where
  pub next : old.going ≡ (to, bytes) ∷ new.going
  pub offered : IsOfferedIn old.synced bytes
  pub others : new ≡ record old { going = new.going }

-- the book in memory is on the device
abbrev pub SavesAll : Leader → Leader → Type 0
SavesAll old new = new ≡ record old { synced = old.head.book; unsaved = []; untold = old.untold ++ old.unsaved }

-- the book has a row as ended so
abbrev pub IsNotedIn : Contents → Ended → Type 0
IsNotedIn synced ended = state_in synced ended.campaign ended.meter ≡ Some (state_after ended.ending)

-- the next row is reported, and the book on the device has it so
pub record TellsNext (old : Leader) (ended : Ended) (new : Leader) : Type 0 where
  pub next : old.untold ≡ ended ∷ new.untold
  pub on_device : IsNotedIn old.synced ended
  pub others : new ≡ record old { untold = new.untold }

-- From old, a head end makes this step and goes on to new.
abbrev pub Steps : Leader → Step → Leader → Type 0
Steps old (hears from datagram) new = HearsMeter old from datagram new ⊎ (HearsNot old from datagram new ⊎ HearsStranger old from new)
Steps old idles new = new ≡ old
Steps old (ticks meter) new = TicksMeter old meter new
Steps old (sends to bytes) new = SendsNext old to bytes new
Steps old saves new = SavesAll old new
Steps old (tells ended) new = TellsNext old ended new

-- These steps, the newest first, lead from start to now.
abbrev pub Leading : Leader → List Step → Leader → Type 0
Leading start [] now = now ≡ start
Leading start (step ∷ steps) now = (before : Leader) × Leading start steps before × Steps before step now

-- what of them the outside sees
abbrev pub acts_of : List Step → List Act
acts_of [] = []
acts_of (hears from datagram ∷ steps) = came from datagram ∷ acts_of steps
acts_of (idles ∷ steps) = quiet ∷ acts_of steps
acts_of (ticks meter ∷ steps) = acts_of steps
acts_of (sends to bytes ∷ steps) = sent to bytes ∷ acts_of steps
acts_of (saves ∷ steps) = acts_of steps
acts_of (tells ended ∷ steps) = told ended ∷ acts_of steps

-- after what was done before, a head end did this, and is as now
pub record Leads (start : Leader) (before after : List Act) (now : Leader) : Type 0 where
  pub steps : List Step
  pub adds : after ≡ acts_of steps ++ before
  pub leading : Leading start steps now

-- a head end that is as start may do what it does
abbrev pub MayLead : (List Act → Type 0) → Leader → List Act → Type 0
MayLead legal start before =
    (steps : List Step) (now : Leader) → Leading start steps now → legal (acts_of steps ++ before)

-- after what was done before, a head end that was as start did this, whatever it is now
abbrev pub HasLed : Leader → List Act → List Act → Type 0
HasLed start before after = (now : Leader) × Leads start before after now

-- these datagrams are about to be sent to an address, and the book on the device offers each
pub record IsAboutToSend (leader : Leader) (to : SocketAddr) (datagrams : List (List ℕ)) : Type 0 where
  pub going : leader.going ≡ map (λ (bytes : List ℕ). (to, bytes)) datagrams
  pub offered : All (IsOfferedIn leader.synced) datagrams

-- these rows are about to be reported, and the book on the device has each so
pub record IsAboutToTell (leader : Leader) (saved : List Ended) : Type 0 where
  pub untold : leader.untold ≡ saved
  pub on_device : All (IsNotedIn leader.synced) saved
