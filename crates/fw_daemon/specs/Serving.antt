-- Public vocabulary: what a daemon does, over all that comes.
use Rattle.std.specs.Prelude.{◌≡◌, ◌⊎◌, ◌++◌, ℕ, List, [], ◌∷◌, Option, Some, None}
use Rattle.std.specs.declared.net.socket_addr.SocketAddr.{SocketAddr}
use Rattle.fw_names.specs.Name.{Name}
use Rattle.fw_meter.specs.Handling.{MayWantMemory}
use Rattle.fw_port.specs.Acts.{came, quiet, sent}
use Rattle.fw_daemon.specs.Acts.{Act}
use Rattle.fw_daemon.specs.Daemon.{Daemon, IsServed, MayAsk, TakesTurn, one_more}

-- a datagram from an address that may ask is handled, with this reply or none
pub record IsAnswered (old : Daemon) (from : SocketAddr) (datagram : List ℕ) (reply : Option (List ℕ)) (new : Daemon) : Type 0 where
  pub may_ask : MayAsk old.heads from
  pub activated : Option Name
  pub served : IsServed old datagram reply activated new

-- it is dropped for lack of memory
pub record IsUnserved (old : Daemon) (from : SocketAddr) (datagram : List ℕ) (reply : Option (List ℕ)) (new : Daemon) : Type 0 where
  pub may_ask : MayAsk old.heads from
  pub wants : MayWantMemory datagram
  pub silent : reply ≡ None
  pub counted : new ≡ record old { unserved = one_more old.unserved }

-- a stranger's datagram is counted, and the meter goes on as if nothing had come
pub record IsStrange (old : Daemon) (from : SocketAddr) (reply : Option (List ℕ)) (new : Daemon) : Type 0 where
  pub may_not : MayAsk old.heads from → ⊥
  pub silent : reply ≡ None
  pub goes_on : TakesTurn (record old { strangers = one_more old.strangers }) new

-- From old, a daemon takes a datagram from an address, replies so or not at all, and goes on to new.
abbrev pub Takes : Daemon → SocketAddr → List ℕ → Option (List ℕ) → Daemon → Type 0
Takes old from datagram reply new =
    IsAnswered old from datagram reply new ⊎ (IsUnserved old from datagram reply new ⊎ IsStrange old from reply new)

-- What was done, the newest first, is what a daemon does that was as start and is as now. A datagram that it sent is its reply to the
-- one that came just before, and goes to where that came from. One after which none was sent has no reply. If nothing came, the meter
-- took a turn. It does nothing else. Its loop may wait for ever, and is held to this all the while.
abbrev pub Serving : Daemon → List Act → Daemon → Type 0
Serving start [] now = now ≡ start
Serving start (quiet ∷ done) now = (before : Daemon) × Serving start done before × TakesTurn before now
Serving start (came from datagram ∷ done) now = (before : Daemon) × Serving start done before × Takes before from datagram None now
Serving start (sent to bytes ∷ came from datagram ∷ done) now =
    (before : Daemon) × Serving start done before × (to ≡ from) × Takes before from datagram (Some bytes) now
Serving start (act ∷ done) now = ⊥

-- after what was done before, a daemon did this, and is as now
pub record Serves (start : Daemon) (before after : List Act) (now : Daemon) : Type 0 where
  pub done : List Act
  pub adds : after ≡ done ++ before
  pub serving : Serving start done now
