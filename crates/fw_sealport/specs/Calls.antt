-- Public vocabulary: what the calls of a sealing port do, over whatever port.
use Rattle.std.specs.Prelude.{◌≡◌, ◌⊎◌, ℕ, Bool, List, ◌∷◌, IsTrue, Some, MatchOption}
use Rattle.std.specs.declared.net.socket_addr.SocketAddr.{SocketAddr}
use Rattle.fw_journal.specs.declared.device.JournalDevice
use Rattle.fw_port.specs.Acts.{Act, came, quiet, sent}
use Rattle.fw_port.specs.declared.port.NoReport.{NoReport}
use Rattle.fw_seal.specs.Sealing.{Ends}
use Rattle.fw_sealport.specs.Counts.{unopened, unsealed}
use Rattle.fw_sealport.specs.Peers.{LetsThroughFrom, RefusesFrom, SamePeers, link_at}
use Rattle.fw_sealport.specs.Sealed.{SealsPlain}
use Rattle.fw_sealport.specs.Sealing.{Unused, UsesCounter, WhyUnsealed, next_of}
use Rattle.fw_sealport.specs.declared.dropped.Dropped.{Dropped}
use Rattle.fw_sealport.specs.declared.dropped.Unopened.{Unopened}
use Rattle.fw_sealport.specs.declared.unsealed.Unsealed.{Unsealed}
use Rattle.fw_sealport.specs.declared.unsealed.Unsealed.TheVariants.{Stranger}
use Rattle.fw_sealport.specs.declared.links.Links.{Links}
use Rattle.fw_sealport.specs.declared.port.SealedPort.{SealedPort}

-- a port did this and nothing else, which is known of one that is honest
abbrev pub Does : {P : Type 0} → (P → Bool) → (P → List (Act NoReport)) → P → Act NoReport → P → Type 0
Does honest acts old act new = IsTrue (honest old) → acts new ≡ act ∷ acts old

-- ---- receiving

-- The port below received a datagram from an address, and what the daemon gets, from that address, is what was opened of it.
pub record LetsArrive {P D : Type 0} (honest : P → Bool) (acts : P → List (Act NoReport)) (old : SealedPort P D) (from : SocketAddr) (datagram : List ℕ) (new : SealedPort P D) : Type 0 where
  pub wire : List ℕ
  pub below : Does honest acts old.port (came from wire) new.port
  pub lets : LetsThroughFrom old.links from wire datagram new.links
  pub uncounted : new.dropped ≡ old.dropped
  pub sealer : new.sealer ≡ old.sealer

-- nothing is let through of what came from an address, for this reason, which is counted
pub record DropsFrom (old : Links) (counts : Dropped) (from : SocketAddr) (wire : List ℕ) (new : Links) (counts' : Dropped) : Type 0 where
  pub reason : Unopened
  pub refused : RefusesFrom old from wire reason
  pub counted : counts' ≡ unopened reason counts
  pub peers : SamePeers old new

-- The port below received a datagram, of which nothing is let through.
pub record Drops {P D : Type 0} (honest : P → Bool) (acts : P → List (Act NoReport)) (old new : SealedPort P D) : Type 0 where
  pub from : SocketAddr
  pub wire : List ℕ
  pub below : Does honest acts old.port (came from wire) new.port
  pub drops : DropsFrom old.links old.dropped from wire new.links new.dropped
  pub sealer : new.sealer ≡ old.sealer

-- it received none
pub record StaysQuiet {P D : Type 0} (honest : P → Bool) (acts : P → List (Act NoReport)) (old new : SealedPort P D) : Type 0 where
  pub below : Does honest acts old.port quiet new.port
  pub others : new ≡ record old { port = new.port }

-- so nothing comes to the daemon
abbrev pub BringsNothing : {P D : Type 0} → (P → Bool) → (P → List (Act NoReport)) → SealedPort P D → SealedPort P D → Type 0
BringsNothing honest acts old new = Drops honest acts old new ⊎ StaysQuiet honest acts old new

-- nothing was received, since the port is closed
pub record StaysClosed {P D : Type 0} (honest : P → Bool) (acts : P → List (Act NoReport)) (old new : SealedPort P D) : Type 0 where
  pub below : IsTrue (honest old.port) → acts new.port ≡ acts old.port
  pub others : new ≡ record old { port = new.port }

-- ---- sending

-- The daemon sends a datagram to an address, and what the port below sends there, in its place, is its sealing under the link of that
-- address, with the next counter, which is used by that.
pub record SendsSealing {P D : Type 0} (honest : P → Bool) (acts : P → List (Act NoReport)) (J : JournalDevice.Ghosts D) (old : SealedPort P D) (to : SocketAddr) (datagram : List ℕ) (new : SealedPort P D) : Type 0 where
  pub ends : Ends
  pub there : link_at old.links to ≡ Some ends
  pub wire : List ℕ
  pub seals : SealsPlain ends (next_of old.sealer) datagram wire
  pub uses : UsesCounter J old.sealer new.sealer
  pub below : Does honest acts old.port (sent to wire) new.port
  pub links : new.links ≡ old.links
  pub uncounted : new.dropped ≡ old.dropped

-- why nothing is sent to an address in place of a datagram
abbrev pub WhyUnsent : {P D : Type 0} → JournalDevice.Ghosts D → SealedPort P D → SocketAddr → List ℕ → Unsealed → Type 0
WhyUnsent J port to datagram reason =
    MatchOption (link_at port.links to) (reason ≡ Stranger) (λ ends. WhyUnsealed J ends port.sealer datagram reason)

-- Or the port below sends nothing, for this reason, and that is counted.
pub record SendsNothing {P D : Type 0} (J : JournalDevice.Ghosts D) (old : SealedPort P D) (to : SocketAddr) (datagram : List ℕ) (new : SealedPort P D) : Type 0 where
  pub reason : Unsealed
  pub unsent : WhyUnsent J old to datagram reason
  pub unused : Unused J old.sealer reason new.sealer
  pub counted : new.dropped ≡ unsealed old.dropped
  pub port : new.port ≡ old.port
  pub links : new.links ≡ old.links

abbrev pub Sends : {P D : Type 0} → (P → Bool) → (P → List (Act NoReport)) → JournalDevice.Ghosts D → SealedPort P D → SocketAddr → List ℕ → SealedPort P D → Type 0
Sends honest acts J old to datagram new = SendsSealing honest acts J old to datagram new ⊎ SendsNothing J old to datagram new
