-- Public vocabulary: the log of an end whose links are sealed, in plain words: what its port lets through of what came (fw_sealport), and what it
-- sealed itself (IEC 62056-5-3, security suite 0).
use Rattle.std.specs.Prelude.{◌≡◌, ◌≢◌, ◌<◌, ◌⊎◌, ◌++◌, ℕ, List, [], ◌∷◌, length, map, take, slice_get, Some}
use Rattle.std.specs.declared.net.socket_addr.SocketAddr.{SocketAddr}
use Rattle.fw_audit.specs.Departures.{IsDeparture}
use Rattle.fw_audit.specs.Log.{Item, started, came, sent, turned}
use Rattle.fw_audit.specs.Stands.{ended, IsLog, IsMeterLog}
use Rattle.fw_audit.specs.declared.error.Departure.{Departure}
use Rattle.fw_audit.specs.declared.error.Rule.{Rule}
use Rattle.fw_image.specs.Meter.{Image, Meter}
use Rattle.fw_sealport.specs.Peers.{LetsThroughFrom, RefusesFrom, SamePeers}
use Rattle.fw_sealport.specs.declared.dropped.Unopened.{Unopened}
use Rattle.fw_sealport.specs.declared.dropped.Unopened.TheVariants.{OutOfMemory}
use Rattle.fw_sealport.specs.declared.links.Links.{Links}
use Rattle.fw_evidence.specs.Captures.{IsLogOf, IsNoLog}
use Rattle.fw_evidence.specs.declared.error.EvidenceError.{EvidenceError}
use Rattle.fw_evidence.specs.declared.error.EvidenceError.TheVariants as evidence
use Rattle.fw_evidence.specs.declared.error.Mark.{Mark}
use Rattle.fw_evidence.specs.declared.opened.OpenedEntry.{OpenedEntry}
use Rattle.fw_evidence.specs.declared.opened.OpenedItem.{OpenedItem}
use Rattle.fw_evidence.specs.declared.opened.OpenedItem.TheVariants as kinds
use Rattle.fw_evidence.specs.declared.opened.OpenedLog.{OpenedLog}
use Rattle.fw_evidence.specs.declared.unsealing.Opening.{Opening}
use Rattle.fw_evidence.specs.declared.sealed.SealedLogError.{SealedLogError}
use Rattle.fw_evidence.specs.declared.sealed.SealedLogError.TheVariants as errors
use Rattle.fw_evidence.specs.declared.site.Site.{Site}

-- ---- a log that was opened

-- an item in plain words apart from where it lies in memory
abbrev pub opened_item : OpenedItem → Item
opened_item kinds.Started = started
opened_item (kinds.Came from bytes) = came from bytes.items
opened_item (kinds.Sent to bytes) = sent to bytes.items
opened_item kinds.Turned = turned

abbrev pub items_in : OpenedLog → List Item
items_in log = map (λ (e : OpenedEntry). opened_item e.item) log.entries.items

abbrev pub marks_in : OpenedLog → List Mark
marks_in log = map (λ (e : OpenedEntry). e.mark) log.entries.items

-- ---- a datagram

-- What came from an address is let through: the end gets the datagram of what the other end of that link sealed, with a counter that is new.
pub record IsHeard (old : Opening) (from : SocketAddr) (wire : List ℕ) (plain : List Item) (new : Opening) : Type 0 where
  pub datagram : List ℕ
  pub lets : LetsThroughFrom old.theirs from wire datagram new.theirs
  pub order : new.theirs.order ≡ old.theirs.order
  pub own : new.own ≡ old.own
  pub says : plain ≡ came from datagram ∷ []

-- Nothing of it is, for this reason: the end goes on as if nothing had come.
pub record IsPassedOver (old : Opening) (from : SocketAddr) (wire : List ℕ) (plain : List Item) (new : Opening) : Type 0 where
  pub why : Unopened
  pub known : why ≢ OutOfMemory
  pub refused : RefusesFrom old.theirs from wire why
  pub peers : SamePeers old.theirs new.theirs
  pub order : new.theirs.order ≡ old.theirs.order
  pub own : new.own ≡ old.own
  pub none : plain ≡ []

-- What is sent to an address the end sealed itself, under that link, with a counter that it may use after those that it used: in place of this.
pub record IsSealed (old : Opening) (to : SocketAddr) (wire : List ℕ) (plain : List Item) (new : Opening) : Type 0 where
  pub datagram : List ℕ
  pub lets : LetsThroughFrom old.own to wire datagram new.own
  pub order : new.own.order ≡ old.own.order
  pub theirs : new.theirs ≡ old.theirs
  pub says : plain ≡ sent to datagram ∷ []

abbrev pub Comes : Opening → SocketAddr → List ℕ → List Item → Opening → Type 0
Comes old from wire plain new = IsHeard old from wire plain new ⊎ IsPassedOver old from wire plain new

-- ---- a log

module _ (hears : Links → Type 0) where
  -- From old, an item of what was on the wire leads to new, and says this in plain words. A start makes the links anew, of which nothing came.
  abbrev pub Says : Opening → Item → List Item → Opening → Type 0
  Says old started plain new = hears new.theirs × (new.own ≡ old.own) × (plain ≡ started ∷ [])
  Says old (came from wire) plain new = Comes old from wire plain new
  Says old (sent to wire) plain new = IsSealed old to wire plain new
  Says old turned plain new = (new ≡ old) × (plain ≡ turned ∷ [])

  -- From old, these items with their marks lead to new, one after another, and say this log in plain words, each item with the mark of its own.
  abbrev pub Opens : Opening → List Item → List Mark → List Item → List Mark → Opening → Type 0
  Opens old [] [] log marks new = (log ≡ []) × (marks ≡ []) × (new ≡ old)
  Opens old [] (mark ∷ at) log marks new = ⊥
  Opens old (item ∷ wire) [] log marks new = ⊥
  Opens old (item ∷ wire) (mark ∷ at) log marks new =
      (next : Opening) × (first : List Item) × (rest : List Item) × (later : List Mark) × Says old item first next × Opens next wire at rest later new
      × (log ≡ first ++ rest) × (marks ≡ map (λ (_ : Item). mark) first ++ later)

-- The links under which an end opens what comes, and the same as their other ends have them, under which what it sends is opened.
pub record Begins (hears seals : Links → Type 0) (first : Opening) : Type 0 where
  pub theirs : hears first.theirs
  pub own : seals first.own

-- A capture is this log of the end at a site, in plain words.
pub record IsSealedLogOf (hears seals : Links → Type 0) (site : Site) (capture : List ℕ) (log : List Item) (marks : List Mark) : Type 0 where
  pub wire : List Item
  pub at : List Mark
  pub is : IsLogOf site capture wire at
  pub first : Opening
  pub begins : Begins hears seals first
  pub last : Opening
  pub opens : Opens hears first wire at log marks last

-- as it stands, a capture has so many items of the end at a site
pub record HasItems (site : Site) (capture : List ℕ) (count : ℕ) : Type 0 where
  pub wire : List Item
  pub at : List Mark
  pub is : IsLogOf site capture wire at
  pub many : count ≡ length wire

-- ---- a capture that is none

-- behind items that open stands a datagram that is sent, in the record of this mark, which the end hasn't sealed so, for this reason
pub record HasUnsealed (hears seals : Links → Type 0) (wire : List Item) (at : List Mark) (mark : Mark) (why : Unopened) : Type 0 where
  pub first : Opening
  pub begins : Begins hears seals first
  pub count : ℕ
  pub log : List Item
  pub marks : List Mark
  pub last : Opening
  pub opens : Opens hears first (take count wire) (take count at) log marks last
  pub to : SocketAddr
  pub bytes : List ℕ
  pub there : slice_get wire count ≡ Some (sent to bytes)
  pub place : slice_get at count ≡ Some mark
  pub refused : RefusesFrom last.own to bytes why
  pub known : why ≢ OutOfMemory

pub record LacksSealing (hears seals : Links → Type 0) (site : Site) (capture : List ℕ) (mark : Mark) (why : Unopened) : Type 0 where
  pub wire : List Item
  pub at : List Mark
  pub is : IsLogOf site capture wire at
  pub has : HasUnsealed hears seals wire at mark why

-- Why a capture is no log in plain words: it is none as it stands, or has a datagram that the end didn't seal. Or memory was refused.
abbrev pub IsNoSealedLog : (Links → Type 0) → (Links → Type 0) → Site → List ℕ → SealedLogError → Type 0
IsNoSealedLog hears seals site capture (errors.NoLog error) = IsNoLog site capture error
IsNoSealedLog hears seals site capture (errors.Unsealed mark why) = LacksSealing hears seals site capture mark why
IsNoSealedLog hears seals site capture errors.OutOfMemory = (wire : List Item) × (at : List Mark) × IsLogOf site capture wire at

-- ---- the audit of one

-- the log departs from what the meter does, first at the item of this mark, which breaks this rule
pub record OpenedDeparts (heads : List SocketAddr) (begin : Meter) (log : List Item) (marks : List Mark) (mark : Mark) (rule : Rule) : Type 0 where
  pub departure : Departure
  pub departs : IsDeparture heads (ended begin) log departure
  pub broken : departure.rule ≡ rule
  pub there : slice_get marks departure.at ≡ Some mark

abbrev pub IsUnfitLog : List SocketAddr → Meter → List Item → List Mark → Meter → EvidenceError → Type 0
IsUnfitLog heads begin log marks end (evidence.NoLog error) = ⊥
IsUnfitLog heads begin log marks end (evidence.Departs mark rule) = OpenedDeparts heads begin log marks mark rule
IsUnfitLog heads begin log marks end evidence.OtherStore = IsLog heads begin log × ((images : List Image) → IsMeterLog heads begin log images end → ⊥)
IsUnfitLog heads begin log marks end evidence.OutOfMemory = 0 < length log
