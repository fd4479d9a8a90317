-- Public vocabulary: the book of a list of records. It is what fw_book's own operations make of a book without campaigns, one record after
-- the other.
use Rattle.std.specs.Prelude.{◌≡◌, ◌⊎◌, ℕ, ◌≤◌, Bool, true, false, is_none, List, [], ◌∷◌, ◌++◌, length, Some, None, IsSome, Vec}
use Rattle.std.specs.declared.alloc.Global.{Global}
use Rattle.fw_names.specs.Name.{Campaign}
use Rattle.fw_book.specs.declared.row.RowState.{RowState}
use Rattle.fw_book.specs.declared.row.RowState.TheVariants as row
use Rattle.fw_book.specs.Rows.{meters_of}
use Rattle.fw_book.specs.Contents.{Offered, Contents, offered_in, image_in, state_in}
use Rattle.fw_book.specs.declared.notes.End.{End}
use Rattle.fw_book.specs.Changes.{empty_book, opened, marked, cancelled, opening_refusal, mark_refusal, cancel_refusal}
use Rattle.fw_ledger.specs.declared.record.Ending.{Ending}
use Rattle.fw_ledger.specs.declared.record.Ending.TheVariants as ending
use Rattle.fw_ledger.specs.declared.record.Note.{Note}
use Rattle.fw_ledger.specs.declared.record.Note.TheVariants as noted
use Rattle.fw_ledger.specs.Entry.{Source, whole, earlier, Entry, opening, mark, cancelling, endings, note, ending_number, Spells, BeginsOpening, SpellsNote}

-- the state in which a row ends
abbrev pub state_of : Ending → RowState
state_of ending.Done = row.Done
state_of ending.Failed = row.Failed

-- the image of an opening: that in the record, or the one that the earlier campaign offers in this book
abbrev pub IsImage : Contents → Source → List ℕ → Type 0
IsImage book (whole bytes) image = image ≡ bytes
IsImage book (earlier serial) image = (1 ≤ serial) × (image_in book (record { head = book.head; serial = serial }) ≡ Some image)

-- a book takes the campaign, and has it then
pub record MakesOpened (book : Contents) (campaign : Campaign) (release : ℕ) (source : Source) (meters : List ℕ) (next : Contents) : Type 0 where
  pub image : List ℕ
  pub is_image : IsImage book source image
  pub admitted : opening_refusal book campaign image meters ≡ None
  pub next_is : next ≡ opened book campaign.serial release image meters

-- what the mark of a meter's row makes of a book
abbrev pub MakesMarked : Contents → Campaign → ℕ → Ending → Contents → Type 0
MakesMarked book campaign meter e next = (mark_refusal book campaign meter ≡ None) × (next ≡ marked book campaign.serial meter (state_of e))

-- what a number makes of a book: 0 nothing, and that of an ending what the mark of the meter's row makes
abbrev pub MakesNumbered : Contents → Campaign → ℕ → ℕ → Contents → Type 0
MakesNumbered book campaign meter number next =
    ((number ≡ 0) × (next ≡ book)) ⊎ ((e : Ending) × (number ≡ ending_number e) × MakesMarked book campaign meter e next)

-- what the numbers of these meters make of a book, one after the other, if there is one for each meter
abbrev pub MakesEach : Contents → Campaign → List ℕ → List ℕ → Contents → Type 0
MakesEach book campaign [] [] next = next ≡ book
MakesEach book campaign (meter ∷ meters) (number ∷ numbers) next =
    (between : Contents) × MakesNumbered book campaign meter number between × MakesEach between campaign meters numbers next
MakesEach book campaign _ _ next = ⊥

-- A book has the campaign, and marks its rows by these numbers, one for each in their order.
pub record MakesEnded (book : Contents) (campaign : Campaign) (numbers : List ℕ) (next : Contents) : Type 0 where
  pub offer : Offered
  pub offered : offered_in book campaign ≡ Some offer
  pub each : MakesEach book campaign (meters_of offer.rows) numbers next

-- a row in this state ended so: it is done, and no reason is told, or it failed
abbrev pub ends_so : RowState → End → Bool
ends_so row.Live told = false
ends_so row.Done told = is_none told.reason
ends_so row.Failed told = true
ends_so row.Cancelled told = false

-- a book has a row of the meter, and the row ended so
pub record HasEnd (book : Contents) (campaign : Campaign) (meter : ℕ) (told : End) : Type 0 where
  pub state : RowState
  pub is_state : state_in book campaign meter ≡ Some state
  pub ended : ends_so state told ≡ true

-- what is noted is of a campaign that the book has, or of a row of it that ended so
abbrev pub IsNoteOf : Contents → Campaign → Note → Type 0
IsNoteOf book campaign (noted.Opened at) = IsSome (offered_in book campaign)
IsNoteOf book campaign (noted.Ended meter told) = HasEnd book campaign meter told

-- what a record makes of a book: a note makes nothing of it, and is refused if it isn't of the book
abbrev pub Makes : Entry → Contents → Contents → Type 0
Makes (opening campaign release source meters) book next = MakesOpened book campaign release source meters next
Makes (mark campaign meter e) book next = MakesMarked book campaign meter e next
Makes (cancelling campaign) book next = (cancel_refusal book campaign ≡ None) × (next ≡ cancelled book campaign.serial)
Makes (endings campaign numbers) book next = MakesEnded book campaign numbers next
Makes (note campaign told) book next = IsNoteOf book campaign told × (next ≡ book)

-- the record that these bytes spell makes this of a book
pub record Adds (bytes : List ℕ) (book next : Contents) : Type 0 where
  pub entry : Entry
  pub spells : Spells bytes entry
  pub makes : Makes entry book next

-- what these records make of a book, one after the other
abbrev pub AddsAll : List (List ℕ) → Contents → Contents → Type 0
AddsAll [] book next = next ≡ book
AddsAll (bytes ∷ records) book next = (between : Contents) × Adds bytes book between × AddsAll records between next

-- the book of a head end that has these records
abbrev pub IsBookOf : ℕ → List (List ℕ) → Contents → Type 0
IsBookOf head records book = AddsAll records (empty_book head) book

-- some records make this book
abbrev pub IsMade : Contents → Type 0
IsMade book = (records : List (List ℕ)) × IsBookOf book.head records book

-- the bytes make nothing of this book: they spell no record, or it refuses what the record says
abbrev pub AddsNothing : List ℕ → Contents → Type 0
AddsNothing bytes book = (next : Contents) → ¬ Adds bytes book next

-- the records before this one have a book, of which it makes nothing
pub record FailsAt (head : ℕ) (records : List (List ℕ)) (index : ℕ) (bytes : List ℕ) : Type 0 where
  pub front : List (List ℕ)
  pub rest : List (List ℕ)
  pub split : records ≡ front ++ bytes ∷ rest
  pub index_is : index ≡ length front
  pub book : Contents
  pub is_book : IsBookOf head front book
  pub nothing : AddsNothing bytes book

-- The records before one that begins as an opening, or is a note, have a book, so that memory may be taken for it.
pub record TakesMemory (head : ℕ) (records : List (List ℕ)) : Type 0 where
  pub front : List (List ℕ)
  pub bytes : List ℕ
  pub rest : List (List ℕ)
  pub split : records ≡ front ++ bytes ∷ rest
  pub takes : BeginsOpening bytes ⊎ SpellsNote bytes
  pub book : Contents
  pub is_book : IsBookOf head front book

-- what the vectors hold
abbrev pub records_of : List (Vec ℕ Global) → List (List ℕ)
records_of [] = []
records_of (v ∷ vs) = v.items ∷ records_of vs
