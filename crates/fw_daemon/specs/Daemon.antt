-- Public vocabulary: the daemon of a meter, and what it does with one datagram.
use Rattle.std.specs.Prelude.{◌≡◌, ◌⊎◌, ◌+◌, ◌-◌, ◌^◌, ℕ, IsTrue, List, [], Option, Some, None, Contains, min}
use Rattle.std.specs.declared.net.socket_addr.SocketAddr.{SocketAddr}
use Rattle.fw_names.specs.Name.{Name}
use Rattle.fw_store.specs.declared.fuse.Fuse.{Fuse}
use Rattle.fw_image.specs.Meter.{status_of}
use Rattle.fw_image.specs.State.{State, Counts, Follows, Turns}
use Rattle.fw_meter.specs.Handling.{Handles, MayWantMemory, reply_bytes}
use Rattle.fw_meter.specs.Stopping.{CallsStore, StopsAfter}
use Rattle.fw_daemon.specs.Events.{IsEvent}
use Rattle.fw_daemon.specs.declared.daemon.Heard.{Heard}
use Rattle.fw_daemon.specs.declared.daemon.Heard.TheVariants as heard
use Rattle.fw_daemon.specs.declared.daemon.MeterDaemon.{MeterDaemon}

pub record Daemon : Type 0 where
  -- the addresses that may ask; if there is none, any may
  pub heads : List SocketAddr
  -- the meter and its store
  pub state : State
  -- how many datagrams were dropped that came from other addresses
  pub strangers : ℕ
  -- and how many for lack of memory
  pub unserved : ℕ

abbrev pub daemon_of : {S : Type 0} → MeterDaemon S → Daemon
daemon_of d = record { heads = d.heads.items; state = d.meter; strangers = d.dropped.strangers; unserved = d.dropped.unserved }

abbrev pub MayAsk : List SocketAddr → SocketAddr → Type 0
MayAsk heads from = (heads ≡ []) ⊎ Contains heads from

-- one more, up to the greatest number that is counted
abbrev pub one_more : ℕ → ℕ
one_more n = min (n + 1) (2 ^ 64 - 1)

-- all that is known of a meter that handles a datagram: its step, its calls of the store, and what is left where these fail
pub record Answers (old : State) (datagram : List ℕ) (reply : Option (List ℕ)) (activated : Option Name) (new : State) : Type 0 where
  pub handles : Handles old.honest (Counts old new) old.meter datagram reply activated new.meter
  pub follows : Follows old new
  pub calls : CallsStore old datagram new
  pub cut : IsTrue old.honest → (set : Fuse) → old.fuse ≡ Some set → StopsAfter set.calls set.torn old.meter datagram activated new.meter

-- the meter handles a datagram, and nothing else of the daemon changes
pub record IsServed (old : Daemon) (datagram : List ℕ) (reply : Option (List ℕ)) (activated : Option Name) (new : Daemon) : Type 0 where
  pub answers : Answers old.state datagram reply activated new.state
  pub others : new ≡ record old { state = new.state }

-- What comes of a datagram from an address. One that may ask is served, with what there is to tell of it, or there is no memory for it. A
-- stranger's is counted, and changes nothing else.
abbrev pub Hears : Daemon → SocketAddr → List ℕ → Heard → Daemon → Type 0
Hears old from datagram (heard.Handled h told) new =
    MayAsk old.heads from × IsServed old datagram (reply_bytes h.reply) h.activated new
    × IsEvent (status_of old.state.meter.phase) datagram (reply_bytes h.reply) h.activated new.state.meter told
Hears old from datagram heard.Stranger new = (MayAsk old.heads from → ⊥) × (new ≡ record old { strangers = one_more old.strangers })
Hears old from datagram heard.OutOfMemory new =
    MayAsk old.heads from × MayWantMemory datagram × (new ≡ record old { unserved = one_more old.unserved })

-- the meter takes a turn, and nothing else of the daemon changes
pub record TakesTurn (old new : Daemon) : Type 0 where
  pub turns : Turns old.state new.state
  pub others : new ≡ record old { state = new.state }
