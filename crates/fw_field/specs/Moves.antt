-- Public vocabulary: what may happen in a field, one move at a time. The one premise on the network is that it makes no datagrams up: what
-- comes from the address of another daemon was sent by that one, to this one.
use Rattle.std.specs.Prelude.{◌≡◌, ◌⊎◌, ℕ, Bool, true, List, [], ◌∷◌, ◌++◌, Option, Some, None, Contains}
use Rattle.std.specs.declared.net.socket_addr.SocketAddr.{SocketAddr}
use Rattle.fw_names.specs.Name.{Campaign, Name, IsOpened}
use Rattle.fw_image.specs.Meter.{Meter, restarted}
use Rattle.fw_image.specs.Step.{Turn}
use Rattle.fw_meter.specs.Laws.{Stops, TearsBlock}
use Rattle.fw_book.specs.Changes.{opening_refusal, cancel_refusal}
use Rattle.fw_book.specs.Contents.{Contents}
use Rattle.fw_book.specs.declared.notes.End.{End}
use Rattle.fw_head.specs.declared.giving_up.GivenUp.{GivenUp}
use Rattle.fw_head.specs.declared.giving_up.WhyGivenUp.{WhyGivenUp}
use Rattle.fw_head.specs.declared.news.News.TheVariants.{Failed}
use Rattle.fw_head.specs.Head.{BeginsWith, GivesUpRow, Head, opened_head, cancelled_head}
use Rattle.fw_daemon.specs.Daemon.{Daemon, IsServed, MayAsk, TakesTurn}
use Rattle.fw_daemon.specs.Serving.{IsStrange, IsUnserved}
use Rattle.fw_rollout.specs.Daemon.{new_leader}
use Rattle.fw_rollout.specs.Leading.{Leader, Step, hears, sends, tells, ended_by, IsListed, Steps}
use Rattle.fw_rollout.specs.declared.ended.Ended.{Ended}
use Rattle.fw_rollout.specs.declared.link.Listed.{Listed}
use Rattle.fw_rollout.specs.Plans.{with_meters}
use Rattle.fw_world.specs.declared.datagram.Direction.TheVariants.{ToMeter, ToHead}
use Rattle.fw_world.specs.Step.{activated, replies}
use Rattle.fw_world.specs.World.{Datagram}
use Rattle.fw_field.specs.Field.{Field, Has, with_daemon, with_leader}

pub data Move : Type 0 where
  -- the daemon of a meter makes a round
  round : ℕ → Move
  -- it is killed, and started again
  kill_meter : ℕ → Move
  -- a head end makes a step
  step : ℕ → Step → Move
  -- a campaign is opened or cancelled by its head end
  open_campaign : Campaign → ℕ → List ℕ → List ℕ → Move
  cancel_campaign : Campaign → Move
  -- a head end gives up the row of a meter
  give_up : ℕ → ℕ → Move
  -- a head end comes to ask other meters
  ask_others : ℕ → List Listed → Move
  -- a head end is killed, and started again
  kill_head : ℕ → Move

-- ---- the network

-- these bytes on the link of a head end and a meter, either way
abbrev pub to_meter : ℕ → ℕ → List ℕ → Datagram
to_meter head meter bytes = record { head = head; meter = meter; direction = ToMeter; bytes = bytes }

abbrev pub to_head : ℕ → ℕ → List ℕ → Datagram
to_head head meter bytes = record { head = head; meter = meter; direction = ToHead; bytes = bytes }

-- A datagram from an address of a head end was sent by that head end to the meter. A head end may have had several: where it starts again,
-- it may have another.
pub record WasSent (addresses : ℕ → List SocketAddr) (f : Field) (meter head : ℕ) (from : SocketAddr) (datagram : List ℕ) : Type 0 where
  pub at : Contains (addresses head) from
  pub sent : Contains f.sent (to_meter head meter datagram)

-- a datagram from the address that a head end has of a meter was sent by that meter to the head end
abbrev pub WasAnswered : Field → ℕ → Leader → SocketAddr → List ℕ → Type 0
WasAnswered f head leader from datagram = (meter : ℕ) → IsListed leader meter from → Contains f.sent (to_head head meter datagram)

-- ---- meters

-- nothing came, and the daemon takes a turn
pub record TurnsAt (old : Field) (number : ℕ) (new : Field) : Type 0 where
  pub before : Daemon
  pub after : Daemon
  pub there : old.meters number ≡ Some before
  pub turns : TakesTurn before after
  pub new_is : new ≡ with_daemon old number after

-- a daemon takes a datagram from an address, with the name of the image that its meter switched to by that
abbrev pub TakesAs : Daemon → SocketAddr → List ℕ → Option (List ℕ) → Option Name → Daemon → Type 0
TakesAs old from datagram reply activates new =
    (MayAsk old.heads from × IsServed old datagram reply activates new)
    ⊎ ((activates ≡ None) × (IsUnserved old from datagram reply new ⊎ IsStrange old from reply new))

-- A datagram came. If it came from an address that may ask, it is of the head end `head`, and the reply is sent on that link.
pub record HearsAt (addresses : ℕ → List SocketAddr) (old : Field) (number : ℕ) (new : Field) : Type 0 where
  pub before : Daemon
  pub after : Daemon
  pub from : SocketAddr
  pub datagram : List ℕ
  pub reply : Option (List ℕ)
  pub activates : Option Name
  pub head : ℕ
  pub there : old.meters number ≡ Some before
  pub takes : TakesAs before from datagram reply activates after
  pub came : MayAsk before.heads from → WasSent addresses old number head from datagram
  pub new_is : new ≡ record (with_daemon old number after) {
    sent = old.sent ++ replies (to_meter head number datagram) reply;
    activations = old.activations ++ activated number activates after.state.meter;
  }

-- a datagram was sent to a meter, by whichever head end
abbrev pub WasSentTo : Field → ℕ → List ℕ → Type 0
WasSentTo f meter datagram = (head : ℕ) × Contains f.sent (to_meter head meter datagram)

-- What a power cut leaves of blocks that were sent again since the last header write: of each any bytes of its length. They came in these
-- datagrams.
abbrev pub Tears : Field → ℕ → Meter → List (List ℕ) → Meter → Type 0
Tears f number old [] new = new ≡ old
Tears f number old (datagram ∷ others) new =
    WasSentTo f number datagram × (next : Meter) × TearsBlock old datagram next × Tears f number next others new

-- What is started again after a kill, which left this meter. By a kill of the process no block is torn, by a power cut any of those that
-- were sent again. The start may be killed too, before it changed the store or after: the next one leads to the same meter.
pub record StartsAgain (f : Field) (number : ℕ) (left : Meter) (after : Daemon) : Type 0 where
  pub datagrams : List (List ℕ)
  pub cut : Meter
  pub torn : Tears f number (restarted left) datagrams cut
  pub again : Has after cut

-- a daemon is killed while it takes a turn, or before or after one, and starts again
pub record IsKilledAt (old : Field) (number : ℕ) (new : Field) : Type 0 where
  pub before : Daemon
  pub left : Meter
  pub after : Daemon
  pub there : old.meters number ≡ Some before
  pub leaves : (left ≡ before.state.meter) ⊎ ((faultless : Bool) × Turn true before.state.meter faultless left)
  pub starts : StartsAgain old number left after
  pub new_is : new ≡ with_daemon old number after

-- a daemon is killed while its meter handles a datagram, at whatever call of its store, and starts again. No reply is sent.
pub record IsKilledIn (addresses : ℕ → List SocketAddr) (old : Field) (number : ℕ) (new : Field) : Type 0 where
  pub before : Daemon
  pub from : SocketAddr
  pub datagram : List ℕ
  pub head : ℕ
  pub left : Meter
  pub activates : Option Name
  pub after : Daemon
  pub there : old.meters number ≡ Some before
  pub may_ask : MayAsk before.heads from
  pub came : WasSent addresses old number head from datagram
  pub stops : Stops before.state.meter datagram activates left
  pub starts : StartsAgain old number left after
  pub new_is : new ≡ record (with_daemon old number after) { activations = old.activations ++ activated number activates left }

-- ---- head ends

-- what comes to a head end comes from the network
abbrev pub Comes : Field → ℕ → Leader → Step → Type 0
Comes f head leader (hears from datagram) = WasAnswered f head leader from datagram
Comes f head leader made = Unit {0}

-- what it sends goes on the link of the meter of which it has that address
abbrev pub GoesOut : ℕ → Leader → Step → List Datagram → Type 0
GoesOut head leader (sends to bytes) out = (meter : ℕ) × IsListed leader meter to × (out ≡ to_meter head meter bytes ∷ [])
GoesOut head leader made out = out ≡ []

-- what it reports
abbrev pub told_by : Step → List Ended
told_by (tells ended) = ended ∷ []
told_by made = []

-- a head end makes a step
pub record StepsAt (old : Field) (number : ℕ) (made : Step) (new : Field) : Type 0 where
  pub before : Leader
  pub after : Leader
  pub out : List Datagram
  pub there : old.heads number ≡ Some before
  pub steps : Steps before made after
  pub came : Comes old number before made
  pub goes_out : GoesOut number before made out
  pub new_is : new ≡ record (with_leader old number after) { sent = old.sent ++ out; told = old.told ++ told_by made }

-- A head end is led anew with this head end in memory, and its book on the device. Which meters are listed may change.
abbrev pub IsLedAnew : Leader → Head → Type 0
IsLedAnew leader head = leader ≡ new_leader leader.meters head head.book

-- A head end opens a campaign, which nothing refuses, and has it on the device before anything of it is sent. Where it was killed meanwhile,
-- the device has the campaign, and that is an opening and then a kill; or the device lacks it, and that is a kill alone.
pub record OpensAt (old : Field) (campaign : Campaign) (release : ℕ) (image meters : List ℕ) (new : Field) : Type 0 where
  pub before : Leader
  pub after : Leader
  pub is_opened : IsOpened campaign
  pub there : old.heads campaign.head ≡ Some before
  pub admitted : opening_refusal before.head.book campaign image meters ≡ None
  pub led : IsLedAnew after (opened_head before.head campaign.serial release image meters)
  pub new_is : new ≡ with_leader old campaign.head after

-- so it is with a cancelling
pub record CancelsAt (old : Field) (campaign : Campaign) (new : Field) : Type 0 where
  pub before : Leader
  pub after : Leader
  pub there : old.heads campaign.head ≡ Some before
  pub admitted : cancel_refusal before.head.book campaign ≡ None
  pub led : IsLedAnew after (cancelled_head before.head campaign.serial)
  pub new_is : new ≡ with_leader old campaign.head after

-- A head end gives up the live row of a meter, though no answer ended it. The row failed, and waits for the device as any row that an answer
-- ended: later steps save it and report it. Where the head end is killed before, the row is live again.
pub record GivesRowUp (old : Field) (number meter : ℕ) (new : Field) : Type 0 where
  pub before : Leader
  pub after : Leader
  pub why : WhyGivenUp
  pub given : GivenUp
  pub end : End
  pub there : old.heads number ≡ Some before
  pub gives : GivesUpRow before.head meter why given after.head
  pub reason : end.reason ≡ Some given.reason
  pub waits : after ≡ record before { head = after.head; unsaved = before.unsaved ++ ended_by (Failed given.campaign meter) end }
  pub new_is : new ≡ with_leader old number after

-- A head end comes to ask the meters of another list, once all that was to be sent is sent: of its books and its rows nothing changes.
pub record AsksOthers (old : Field) (number : ℕ) (meters : List Listed) (new : Field) : Type 0 where
  pub before : Leader
  pub there : old.heads number ≡ Some before
  pub sent_all : before.going ≡ []
  pub new_is : new ≡ with_leader old number (with_meters meters before)

-- A head end is killed, and started again with the book that is read back from the device. That is the last one that was synced, or, where
-- it was killed while it put the marks that wait on the device, the one in memory.
pub record HeadIsKilledAt (old : Field) (number : ℕ) (new : Field) : Type 0 where
  pub before : Leader
  pub after : Leader
  pub book : Contents
  pub width : ℕ
  pub there : old.heads number ≡ Some before
  pub leaves : (book ≡ before.synced) ⊎ (book ≡ before.head.book)
  pub begins : BeginsWith book width after.head
  pub led : IsLedAnew after after.head
  pub new_is : new ≡ with_leader old number after

-- ---- moves

abbrev pub Goes : (ℕ → List SocketAddr) → Field → Move → Field → Type 0
Goes addresses old (round number) new = TurnsAt old number new ⊎ HearsAt addresses old number new
Goes addresses old (kill_meter number) new = IsKilledAt old number new ⊎ IsKilledIn addresses old number new
Goes addresses old (step number made) new = StepsAt old number made new
Goes addresses old (open_campaign campaign release image meters) new = OpensAt old campaign release image meters new
Goes addresses old (cancel_campaign campaign) new = CancelsAt old campaign new
Goes addresses old (give_up number meter) new = GivesRowUp old number meter new
Goes addresses old (ask_others number meters) new = AsksOthers old number meters new
Goes addresses old (kill_head number) new = HeadIsKilledAt old number new

-- These moves lead from a field to another one, each from the field that the one before it led to. Head ends have
-- these addresses, each one after the other.
abbrev pub MovesLead : (ℕ → List SocketAddr) → Field → List Move → Field → Type 0
MovesLead addresses old [] new = new ≡ old
MovesLead addresses old (move ∷ moves) new = (next : Field) × Goes addresses old move next × MovesLead addresses next moves new
