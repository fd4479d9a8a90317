-- Public vocabulary: a book that is kept in a journal, and what a power cut leaves of it.
use Rattle.std.specs.Prelude.{◌≡◌, ◌≢◌, ℕ, ◌≤◌, ◌^◌, ◌+◌, ◌⊎◌, List, [], ◌∷◌, ◌++◌, length, Option, Some, None, Bool}
use Rattle.fw_names.specs.Name.{Campaign}
use Rattle.fw_book.specs.Contents.{Contents}
use Rattle.fw_book.specs.Notes.{Known}
use Rattle.fw_journal.specs.Book.{Stands}
use Rattle.fw_journal.specs.Device.{LeavesOnly}
use Rattle.fw_journal.specs.Journal as journal
use Rattle.fw_journal.specs.declared.device.JournalDevice
use Rattle.fw_journal.specs.declared.journal.Journal.{Journal}
use Rattle.fw_ledger.specs.Entry.{Entry, opening, mark, cancelling, endings, note, Spells}
use Rattle.fw_ledger.specs.Replay.{AddsAll, IsBookOf, FailsAt}
use Rattle.fw_ledger.specs.Noted.{AreNotesOf}

-- ---- what bytes hold

-- the bytes are a journal of records that have this book of the head end
pub record HasBook (head : ℕ) (bytes : List ℕ) (book : Contents) : Type 0 where
  pub records : List (List ℕ)
  pub stands : Stands bytes records
  pub is_book : IsBookOf head records book

-- the bytes are a journal of records that have this book of the head end, and this is known from their notes
pub record HasNoted (head : ℕ) (bytes : List ℕ) (book : Contents) (known : Known) : Type 0 where
  pub records : List (List ℕ)
  pub stands : Stands bytes records
  pub is_book : IsBookOf head records book
  pub are_notes : AreNotesOf records known

-- the bytes are a journal of records, and this is known from their notes
pub record HasNotes (bytes : List ℕ) (known : Known) : Type 0 where
  pub records : List (List ℕ)
  pub stands : Stands bytes records
  pub are_notes : AreNotesOf records known

-- the bytes have no book of any head end
abbrev pub HasNoBook : List ℕ → Type 0
HasNoBook bytes = (head : ℕ) (book : Contents) → ¬ HasBook head bytes book

-- What the bytes are read as, whoever's they are. A journal without records is any head end's; one that has some is the book of one head
-- end.
abbrev pub IsReadAs : List ℕ → Option Contents → Type 0
IsReadAs bytes None = Stands bytes []
IsReadAs bytes (Some book) = HasBook book.head bytes book × ¬ Stands bytes []

abbrev pub campaign_of : Entry → Campaign
campaign_of (opening campaign release image meters) = campaign
campaign_of (mark campaign meter ending) = campaign
campaign_of (cancelling campaign) = campaign
campaign_of (endings campaign numbers) = campaign
campaign_of (note campaign told) = campaign

-- the first record is of a campaign of another head end
pub record IsForeign (head : ℕ) (records : List (List ℕ)) : Type 0 where
  pub first : List ℕ
  pub rest : List (List ℕ)
  pub split : records ≡ first ∷ rest
  pub entry : Entry
  pub spells : Spells first entry
  pub foreign : (campaign_of entry).head ≢ head

-- the bytes are a journal of another head end's records
pub record HasForeign (head : ℕ) (bytes : List ℕ) : Type 0 where
  pub records : List (List ℕ)
  pub stands : Stands bytes records
  pub foreign : IsForeign head records

-- The bytes are a journal of records. The one with this index has no place in the book of those before it, and the first isn't another
-- head end's.
pub record HasBadRecord (head : ℕ) (bytes : List ℕ) (index : ℕ) : Type 0 where
  pub records : List (List ℕ)
  pub stands : Stands bytes records
  pub bad : List ℕ
  pub fails : FailsAt head records index bad
  pub own : ¬ IsForeign head records

-- ---- a journal of a book

-- the journal, or what waits in it with a record more, has 2^60 bytes or more
abbrev pub IsFull : {D : Type 0} → Journal D → Type 0
IsFull kept = (2 ^ 60 ≤ journal.end_of kept) ⊎ (2 ^ 60 ≤ length (journal.waiting_of kept) + 2 ^ 33)

-- Every power cut leaves records of the book `synced` in this journal, with the notes `noted`, and with those that wait they are records of
-- the book `book`, with the notes `known`.
pub record Keeps {D : Type 0} (honest : D → Bool) (contents : D → List ℕ) (may_leave : D → List ℕ → Type 0) (head : ℕ) (kept : Journal D) (synced book : Contents) (noted known : Known) : Type 0 where
  pub done : List (List ℕ)
  pub waiting : List (List ℕ)
  pub has : journal.Has honest contents may_leave kept done waiting
  pub of_done : IsBookOf head done synced
  pub of_waiting : AddsAll waiting synced book
  pub notes_done : AreNotesOf done noted
  pub notes_all : AreNotesOf (done ++ waiting) known

-- what a cut at any moment of an opening leaves: what one before it might have left, or a journal of the same records
abbrev pub LeavesRecords : {D : Type 0} → JournalDevice.Ghosts D → D → D → Type 0
LeavesRecords J old new =
    LeavesOnly J.moment J.left_since old new (λ left. J.may_leave old left ⊎ ((records : List (List ℕ)) → Stands (J.contents old) records → Stands left records))
