-- Public vocabulary: the laws of what a daemon does.
use Rattle.std.specs.Prelude.{◌≡◌, ◌<◌, ◌≤◌, ◌⊎◌, ◌++◌, ℕ, true, false, List, [], ◌∷◌, Option, None, Some, ⊤}
use Rattle.std.specs.declared.net.socket_addr.SocketAddr.{SocketAddr}
use Rattle.fw_names.specs.Name.{IsOpened, Name}
use Rattle.fw_blocks.specs.Cuts.{IsWithinLimits, block_count}
use Rattle.fw_image.specs.Meter.{Meter}
use Rattle.fw_image.specs.State.{Counts}
use Rattle.fw_meter.specs.declared.meter.Handled.{Handled}
use Rattle.fw_port.specs.Acts.{came, quiet, sent}
use Rattle.fw_daemon.specs.Acts.{Act}
use Rattle.fw_daemon.specs.Daemon.{Answers, Daemon, Hears, MayAsk, TakesTurn}
use Rattle.fw_daemon.specs.Events.{switched_by}
use Rattle.fw_daemon.specs.Rounds.{activated_by, told_of, told_of_turn}
use Rattle.fw_daemon.specs.Serving.{Serving}
use Rattle.fw_daemon.specs.declared.daemon.Heard.{Heard}
use Rattle.fw_daemon.specs.declared.daemon.Heard.TheVariants as heard
use Rattle.fw_daemon.specs.declared.event.Cause.{Cause}
use Rattle.fw_daemon.specs.declared.event.Cause.TheVariants as cause
use Rattle.fw_daemon.specs.declared.event.Work.{Work}
use Rattle.fw_daemon.specs.declared.event.MeterEvent.TheVariants as event

-- what a daemon does after what it did is what it does from its beginning on
abbrev pub GoesOn : Type 0
GoesOn =
    (start middle now : Daemon) (first second : List Act)
    → Serving start first middle → Serving middle second now → Serving start (second ++ first) now

-- a datagram came, and the meter's reply to it goes to where it came from, which is an address that may ask
pub record IsReply (start : Daemon) (to : SocketAddr) (bytes : List ℕ) (earlier : List Act) : Type 0 where
  pub datagram : List ℕ
  pub rest : List Act
  pub came_before : earlier ≡ came to datagram ∷ rest
  pub may_ask : MayAsk start.heads to
  pub before : Daemon
  pub serving : Serving start rest before
  pub activated : Option Name
  pub after : Daemon
  pub answers : Answers before.state datagram (Some bytes) activated after.state

-- each datagram that was sent is such a reply
abbrev pub RepliesOnly : Type 0
RepliesOnly =
    (start now : Daemon) (later earlier : List Act) (to : SocketAddr) (bytes : List ℕ)
    → Serving start (later ++ sent to bytes ∷ earlier) now → IsReply start to bytes earlier

-- a datagram came from an address that may not ask
abbrev pub IsStrangers : List SocketAddr → Act → Type 0
IsStrangers heads (came from datagram) = MayAsk heads from → ⊥
IsStrangers heads act = ⊥

-- the same was done, except that nothing came in the place of some datagrams of strangers
abbrev pub Hushes : List SocketAddr → List Act → List Act → Type 0
Hushes heads [] [] = ⊤
Hushes heads [] (other ∷ others) = ⊥
Hushes heads (act ∷ done) [] = ⊥
Hushes heads (act ∷ done) (other ∷ others) = ((other ≡ act) ⊎ (IsStrangers heads act × (other ≡ quiet))) × Hushes heads done others

-- without what strangers sent, the meter does the same
abbrev pub IgnoresStrangers : Type 0
IgnoresStrangers =
    (start now : Daemon) (done others : List Act) → Serving start done now → Hushes start.heads done others
    → (strangers : ℕ) × Serving start others (record now { strangers = strangers })

-- Of what is heard just a switch is told as one, and of a turn none.
pub record SwitchesAreTold : Type 0 where
  pub datagram : (old middle new : Daemon) (from : SocketAddr) (datagram : List ℕ) (what : Heard) → Hears old from datagram what middle
      → switched_by (told_of what middle new) ≡ activated_by what
  pub turn : (old new : Daemon) → switched_by (told_of_turn old new) ≡ None

-- ---- what is told is so

-- an image of this size is within the limits of a meter
pub record IsWithin (m : Meter) (size : ℕ) : Type 0 where
  pub fits : size ≤ m.capacity
  pub limits : IsWithinLimits m.block_size size
  pub most : block_count m.block_size size ≤ m.limit

-- Why a meter can't be initiated with an image of this name, if an identifier is one, and of this size.
abbrev pub IsWhy : Cause → Meter → Option Name → ℕ → Type 0
IsWhy cause.Disabled m name size = m.enabled ≡ false
IsWhy cause.Unnamed m name size = (m.enabled ≡ true) × (name ≡ None)
IsWhy cause.Unopened m (Some name) size = (m.enabled ≡ true) × ¬ IsOpened name.campaign
IsWhy (cause.Below release running) m (Some name) size =
    (m.enabled ≡ true) × (release ≡ name.release) × (running ≡ m.running.name.release) × (release < running)
IsWhy cause.Limits m (Some name) size = (m.enabled ≡ true) × ¬ IsWithin m size
IsWhy why m None size = ⊥

-- Over any store, the cause of a refusal that is told is one that the meter had, and where a failure is told, of a datagram or of a turn, a call
-- of the store failed.
pub record EventsAreTrue : Type 0 where
  pub refusals : (old new : Daemon) (from : SocketAddr) (datagram : List ℕ) (h : Handled) (name : Option Name) (size : ℕ) (why : Cause)
      → Hears old from datagram (heard.Handled h (Some (event.Refused name size why))) new → IsWhy why old.state.meter name size
  pub failures : (old new : Daemon) (from : SocketAddr) (datagram : List ℕ) (h : Handled) (w : Work)
      → Hears old from datagram (heard.Handled h (Some (event.Failed w))) new → Counts old.state new.state false
  pub turns : (old new : Daemon) (w : Work) → TakesTurn old new → told_of_turn old new ≡ Some (event.Failed w) → Counts old.state new.state false
