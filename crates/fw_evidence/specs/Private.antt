-- For private members alone: no public clause cites it.
use Rattle.std.specs.Prelude.{◌≡◌, ◌<◌, ◌++◌, ◌⊎◌, ℕ, slice_get, List, [], ◌∷◌, Option, Some, None, Result, Ok, Err, option_to_list}
use Rattle.fw_capture.specs.View.{Told}
use Rattle.std.specs.declared.net.socket_addr.SocketAddr.{SocketAddr}
use Rattle.fw_audit.specs.Log.{Item, item_of, sent}
use Rattle.fw_audit.specs.declared.error.AuditError.{AuditError}
use Rattle.fw_audit.specs.declared.error.AuditError.TheVariants as audit
use Rattle.fw_audit.specs.declared.error.Departure.{Departure}
use Rattle.fw_audit.specs.declared.item.LogItem.{LogItem}
use Rattle.fw_image.specs.declared.error.OpenError.{OpenError}
use Rattle.fw_image.specs.declared.error.OpenError.TheVariants as not_opened
use Rattle.fw_sealport.specs.Peers.{RefusesFrom}
use Rattle.fw_sealport.specs.declared.dropped.Unopened.{Unopened}
use Rattle.fw_sealport.specs.declared.dropped.Unopened.TheVariants as unopened
use Rattle.fw_sealport.specs.declared.links.Links.{Links}
use Rattle.fw_evidence.specs.Entries.{Entry, entries_at, entry_of}
use Rattle.fw_evidence.specs.Sealed.{Begins, HasUnsealed, Opens, items_in, marks_in as opened_marks, opened_item}
use Rattle.fw_evidence.specs.declared.error.EvidenceError.{EvidenceError}
use Rattle.fw_evidence.specs.declared.error.EvidenceError.TheVariants as evidence
use Rattle.fw_evidence.specs.declared.error.LogError.{LogError}
use Rattle.fw_evidence.specs.declared.error.LogError.TheVariants as errors
use Rattle.fw_evidence.specs.declared.error.Mark.{Mark}
use Rattle.fw_evidence.specs.declared.error.Stray.{Stray}
use Rattle.fw_evidence.specs.declared.opened.OpenedItem.{OpenedItem}
use Rattle.fw_evidence.specs.declared.opened.OpenedLog.{OpenedLog}
use Rattle.fw_evidence.specs.declared.unsealing.Opening.{Opening}
use Rattle.fw_evidence.specs.declared.sealed.SealedLogError.{SealedLogError}
use Rattle.fw_evidence.specs.declared.sealed.SealedLogError.TheVariants as sealed
use Rattle.fw_evidence.specs.declared.site.Site.{Site}
use Rattle.fw_evidence.specs.declared.error.StoreRefusal.{StoreRefusal}
use Rattle.fw_evidence.specs.declared.error.StoreRefusal.TheVariants as refusals

-- the entries of an item, if there is one
abbrev pub entries_in : Option LogItem → List Entry
entries_in None = []
entries_in (Some item) = entry_of (item_of item) ∷ []

-- an item was given just where a record says it, and otherwise why it is none of the meter's
abbrev pub Gives : Result (Option LogItem) Stray → Result (List Entry) Stray → Type 0
Gives (Ok item) said = said ≡ Ok (entries_in item)
Gives (Err why) said = said ≡ Err why

-- the mark of an item, if there is one
abbrev pub marks_in : Mark → Option LogItem → List Mark
marks_in mark None = []
marks_in mark (Some item) = mark ∷ []

-- what a record of this mark says to the meter at a site was appended
pub record Takes (site : Site) (mark : Mark) (told : Told) (items : List LogItem) (marks : List Mark) (more : List LogItem) (longer : List Mark) : Type 0 where
  pub item : Option LogItem
  pub says : entries_at site told ≡ Ok (entries_in item)
  pub items_are : more ≡ items ++ option_to_list item
  pub marks_are : longer ≡ marks ++ marks_in mark item

-- or it is none of the meter's, or memory was refused for what it says
abbrev pub IsStrayAt : Site → Mark → Told → LogError → Type 0
IsStrayAt site mark told (errors.Fault error) = ⊥
IsStrayAt site mark told (errors.Stray where_it_is why) = (where_it_is ≡ mark) × (entries_at site told ≡ Err why)
IsStrayAt site mark told errors.OutOfMemory = (entry : Entry) × (entries_at site told ≡ Ok (entry ∷ []))

-- an audit departs at one of so many items, if at all
abbrev pub IsWithin : ℕ → AuditError → Type 0
IsWithin count (audit.Departs d) = d.at < count
IsWithin count audit.OtherStore = Unit {0}
IsWithin count audit.OutOfMemory = Unit {0}

-- what an audit says, with the mark of the item at which it departs
abbrev pub DepartsIn : List Mark → Departure → EvidenceError → Type 0
DepartsIn marks d error = (mark : Mark) × (error ≡ evidence.Departs mark d.rule) × (slice_get marks d.at ≡ Some mark)

abbrev pub IsMarked : List Mark → AuditError → EvidenceError → Type 0
IsMarked marks (audit.Departs d) error = DepartsIn marks d error
IsMarked marks audit.OtherStore error = error ≡ evidence.OtherStore
IsMarked marks audit.OutOfMemory error = error ≡ evidence.OutOfMemory

-- why a store in which no call fails is refused
abbrev pub refusal_of : OpenError → StoreRefusal
refusal_of not_opened.Fault = refusals.OutOfMemory
refusal_of not_opened.BadHeader = refusals.BadHeader
refusal_of not_opened.BadImage = refusals.BadImage

-- ---- a log that is opened

-- what an item says in plain words, if it says something
abbrev pub said_in : Option OpenedItem → List Item
said_in None = []
said_in (Some item) = opened_item item ∷ []

-- why an item says nothing and is not passed over: the end hasn't sealed so what is sent, or memory was refused
abbrev pub IsUnsaid : Opening → Item → Unopened → Type 0
IsUnsaid old item why =
    (why ≡ unopened.OutOfMemory) ⊎ ((to : SocketAddr) × (wire : List ℕ) × (item ≡ sent to wire) × RefusesFrom old.own to wire why)

-- the error that it is
abbrev pub refusal_at : Mark → Unopened → SealedLogError
refusal_at mark unopened.Stranger = sealed.Unsealed mark unopened.Stranger
refusal_at mark unopened.NotSealed = sealed.Unsealed mark unopened.NotSealed
refusal_at mark unopened.Repeated = sealed.Unsealed mark unopened.Repeated
refusal_at mark unopened.OutOfMemory = sealed.OutOfMemory

-- items and their marks open to this log
pub record IsOpened (hears seals : Links → Type 0) (wire : List Item) (at : List Mark) (log : OpenedLog) : Type 0 where
  pub first : Opening
  pub begins : Begins hears seals first
  pub last : Opening
  pub opens : Opens hears first wire at (items_in log) (opened_marks log) last

-- or they don't, for this reason
abbrev pub IsUnopened : (Links → Type 0) → (Links → Type 0) → List Item → List Mark → SealedLogError → Type 0
IsUnopened hears seals wire at (sealed.NoLog error) = ⊥
IsUnopened hears seals wire at (sealed.Unsealed mark why) = HasUnsealed hears seals wire at mark why
IsUnopened hears seals wire at sealed.OutOfMemory = Unit {0}
