-- Public vocabulary: one round of a daemon, with what there is to tell of it.
use Rattle.std.specs.Prelude.{◌≡◌, ◌⊎◌, ℕ, List, [], ◌∷◌, ◌++◌, Option, Some, None}
use Rattle.std.specs.declared.net.socket_addr.SocketAddr.{SocketAddr}
use Rattle.fw_names.specs.Name.{Name}
use Rattle.fw_image.specs.Meter.{status_of}
use Rattle.fw_meter.specs.Handling.{reply_bytes}
use Rattle.fw_port.specs.Acts.{came, quiet, sent}
use Rattle.fw_daemon.specs.Acts.{Act}
use Rattle.fw_daemon.specs.Daemon.{Daemon, Hears, TakesTurn}
use Rattle.fw_daemon.specs.Events.{turn_event}
use Rattle.fw_daemon.specs.declared.daemon.Heard.{Heard}
use Rattle.fw_daemon.specs.declared.daemon.Heard.TheVariants as heard
use Rattle.fw_daemon.specs.declared.event.MeterEvent.{MeterEvent}

-- the reply to what was heard
abbrev pub reply_of : Heard → Option (List ℕ)
reply_of (heard.Handled h told) = reply_bytes h.reply
reply_of heard.Stranger = None
reply_of heard.OutOfMemory = None

-- and the name of the image that the meter switched to by it
abbrev pub activated_by : Heard → Option Name
activated_by (heard.Handled h told) = h.activated
activated_by heard.Stranger = None
activated_by heard.OutOfMemory = None

-- after what a stranger sent the meter takes a turn
abbrev pub GoesOnAfter : Heard → Daemon → Daemon → Type 0
GoesOnAfter (heard.Handled h told) middle new = new ≡ middle
GoesOnAfter heard.Stranger middle new = TakesTurn middle new
GoesOnAfter heard.OutOfMemory middle new = new ≡ middle

-- what there is to tell of a turn that led from the one to the other
abbrev pub told_of_turn : Daemon → Daemon → Option MeterEvent
told_of_turn old new = turn_event (status_of old.state.meter.phase) new.state.meter

-- and of what was heard, with the turn after what a stranger sent
abbrev pub told_of : Heard → Daemon → Daemon → Option MeterEvent
told_of (heard.Handled h told) middle new = told
told_of heard.Stranger middle new = told_of_turn middle new
told_of heard.OutOfMemory middle new = None

-- a datagram came, and its reply was sent, if it has one
abbrev pub with_reply : SocketAddr → List ℕ → Option (List ℕ) → List Act → List Act
with_reply from datagram (Some bytes) acts = sent from bytes ∷ came from datagram ∷ acts
with_reply from datagram None acts = came from datagram ∷ acts

-- a datagram came and was heard
pub record IsExchange (old : Daemon) (before after : List Act) (told : Option MeterEvent) (new : Daemon) : Type 0 where
  pub from : SocketAddr
  pub datagram : List ℕ
  pub what : Heard
  pub middle : Daemon
  pub hears : Hears old from datagram what middle
  pub acts : after ≡ with_reply from datagram (reply_of what) before
  pub tells : told ≡ told_of what middle new
  pub goes_on : GoesOnAfter what middle new

-- From old, a daemon makes one round and goes on to new: nothing came, and it took a turn, or a datagram came.
abbrev pub IsRound : Daemon → List Act → List Act → Option MeterEvent → Daemon → Type 0
IsRound old before after told new =
    ((after ≡ quiet ∷ before) × (told ≡ told_of_turn old new) × TakesTurn old new) ⊎ IsExchange old before after told new

-- ---- whatever is known of the port

-- a datagram came and was heard
pub record IsHearing (old : Daemon) (told : Option MeterEvent) (new : Daemon) : Type 0 where
  pub from : SocketAddr
  pub datagram : List ℕ
  pub what : Heard
  pub middle : Daemon
  pub hears : Hears old from datagram what middle
  pub tells : told ≡ told_of what middle new
  pub goes_on : GoesOnAfter what middle new

-- From old, a daemon makes one round and goes on to new: it took a turn, or a datagram came.
abbrev pub GoesRound : Daemon → Option MeterEvent → Daemon → Type 0
GoesRound old told new = ((told ≡ told_of_turn old new) × TakesTurn old new) ⊎ IsHearing old told new

-- it made these rounds, the newest first, each with what there is to tell of it
abbrev pub GoesRounds : Daemon → List (Option MeterEvent) → Daemon → Type 0
GoesRounds start [] now = now ≡ start
GoesRounds start (told ∷ rounds) now = (before : Daemon) × GoesRounds start rounds before × GoesRound before told now

-- the event, if there is one
abbrev pub listed : Option MeterEvent → List MeterEvent
listed None = []
listed (Some event) = event ∷ []

-- the events in rounds, the oldest first
abbrev pub events_in : List (Option MeterEvent) → List MeterEvent
events_in [] = []
events_in (told ∷ rounds) = events_in rounds ++ listed told

-- who watches was told of these events meanwhile, the oldest first
abbrev pub TellsEvents : {W : Type 0} → (W → List MeterEvent → W → Type 0) → List MeterEvent → W → W → Type 0
TellsEvents {W} tells events old new = (start : W) (before : List MeterEvent) → tells start before old → tells start (before ++ events) new

-- a daemon made rounds, and who watches it was told of just the events in them
pub record IsWatched {W : Type 0} (tells : W → List MeterEvent → W → Type 0) (start : Daemon) (old : W) (now : Daemon) (new : W) : Type 0 where
  pub rounds : List (Option MeterEvent)
  pub made : GoesRounds start rounds now
  pub told : TellsEvents tells (events_in rounds) old new
