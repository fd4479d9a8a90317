-- Public vocabulary: what a daemon does behind a sealing port, call after call, and what holds of all of it.
use Rattle.std.specs.Prelude.{◌≡◌, ◌⊎◌, ℕ, Bool, List, [], ◌∷◌, IsTrue, Some, Contains}
use Rattle.std.specs.declared.net.socket_addr.SocketAddr.{SocketAddr}
use Rattle.fw_counter.specs.Moves.{IsFalling}
use Rattle.fw_journal.specs.declared.device.JournalDevice
use Rattle.fw_port.specs.Acts.{Act, came, quiet, sent, told}
use Rattle.fw_port.specs.declared.port.NoReport.{NoReport}
use Rattle.fw_seal.specs.Sealing.{Ends}
use Rattle.fw_sealport.specs.Calls.{BringsNothing, LetsArrive, SendsNothing, SendsSealing}
use Rattle.fw_sealport.specs.Peers.{link_at}
use Rattle.fw_sealport.specs.Sealed.{Opens, SealsPlain, plain_of}
use Rattle.fw_sealport.specs.Sealing.{next_of}
use Rattle.fw_sealport.specs.declared.links.Links.{Links}
use Rattle.fw_sealport.specs.declared.port.SealedPort.{SealedPort}

-- One call, as the daemon sees it: what came to it, that nothing came, or what it sent; with the counters of what the port below sent, the
-- newest first, before the call and after it.
abbrev pub Call : {P D : Type 0} → (P → Bool) → (P → List (Act NoReport)) → JournalDevice.Ghosts D → SealedPort P D → List ℕ → Act NoReport → List ℕ → SealedPort P D → Type 0
Call honest acts J old used (came from datagram) used' new = LetsArrive honest acts old from datagram new × (used' ≡ used)
Call honest acts J old used quiet used' new = BringsNothing honest acts old new × (used' ≡ used)
Call honest acts J old used (sent to datagram) used' new =
    (SendsSealing honest acts J old to datagram new × (used' ≡ next_of old.sealer ∷ used)) ⊎ (SendsNothing J old to datagram new × (used' ≡ used))
Call honest acts J old used (told report) used' new = ⊥

-- several, the newest first, of a port below that is honest all the time or never
abbrev pub Calls : {P D : Type 0} → (P → Bool) → (P → List (Act NoReport)) → JournalDevice.Ghosts D → SealedPort P D → List (Act NoReport) → List ℕ → SealedPort P D → Type 0
Calls {P} {D} honest acts J old [] used new = (used ≡ []) × (new ≡ old)
Calls {P} {D} honest acts J old (act ∷ history) used new =
    (before : SealedPort P D) × (between : List ℕ) × Calls honest acts J old history between before × Call honest acts J before between act used new
    × (honest new.port ≡ honest before.port)

-- ---- laws

-- a datagram that came to a daemon from an address was opened, under the link of that address, of one that came from there to the port below
pub record WasOpened (links : Links) (below : List (Act NoReport)) (from : SocketAddr) (datagram : List ℕ) : Type 0 where
  pub ends : Ends
  pub there : link_at links from ≡ Some ends
  pub wire : List ℕ
  pub has_come : Contains below (came from wire)
  pub counter : ℕ
  pub apdu : List ℕ
  pub opens : Opens ends.keys ends.other counter apdu wire
  pub plain_is : datagram ≡ plain_of apdu

abbrev pub OnlyWhatOpened : {P D : Type 0} → (P → Bool) → (P → List (Act NoReport)) → JournalDevice.Ghosts D → Type 0
OnlyWhatOpened {P} {D} honest acts J =
    (start now : SealedPort P D) (history : List (Act NoReport)) (used : List ℕ) → IsTrue (honest start.port) → Calls honest acts J start history used now
    → (from : SocketAddr) (datagram : List ℕ) → Contains history (came from datagram) → WasOpened start.links (acts now.port) from datagram

-- what the port below sent to an address is the sealing, under the link of that address, of what the daemon sent there
pub record WasSealed (links : Links) (history : List (Act NoReport)) (used : List ℕ) (to : SocketAddr) (wire : List ℕ) : Type 0 where
  pub ends : Ends
  pub there : link_at links to ≡ Some ends
  pub datagram : List ℕ
  pub was_sent : Contains history (sent to datagram)
  pub counter : ℕ
  pub was_used : Contains used counter
  pub seals : SealsPlain ends counter datagram wire

abbrev pub OnlySealings : {P D : Type 0} → (P → Bool) → (P → List (Act NoReport)) → JournalDevice.Ghosts D → Type 0
OnlySealings {P} {D} honest acts J =
    (start now : SealedPort P D) (history : List (Act NoReport)) (used : List ℕ) → IsTrue (honest start.port) → Calls honest acts J start history used now
    → (to : SocketAddr) (wire : List ℕ) → Contains (acts now.port) (sent to wire) → Contains (acts start.port) (sent to wire) ⊎ WasSealed start.links history used to wire

-- the counters of what it sent rise, so none of them is used twice
abbrev pub CountersRise : {P D : Type 0} → (P → Bool) → (P → List (Act NoReport)) → JournalDevice.Ghosts D → Type 0
CountersRise {P} {D} honest acts J =
    (start now : SealedPort P D) (history : List (Act NoReport)) (used : List ℕ) → Calls honest acts J start history used now → IsFalling used

-- what an end sends in place of a datagram opens to that datagram at the other end, which has this one's title as the other's
abbrev pub WhatIsSentOpens : Type 0
WhatIsSentOpens =
    (ends : Ends) (counter : ℕ) (datagram wire : List ℕ) → SealsPlain ends counter datagram wire
    → (apdu : List ℕ) × Opens ends.keys ends.own counter apdu wire × (datagram ≡ plain_of apdu)
