-- Public vocabulary: the laws of records, of their book and of their notes. They speak of definitions alone.
use Rattle.std.specs.Prelude.{◌≡◌, ℕ, List, [], ◌∷◌, ◌++◌}
use Rattle.std.specs.List.{AllByRecursion}
use Rattle.fw_book.specs.Contents.{Contents}
use Rattle.fw_book.specs.Notes.{Known, nothing_known}
use Rattle.fw_ledger.specs.Entry.{Entry, Spells, SpellAll, IsNote}
use Rattle.fw_ledger.specs.Replay.{AddsAll, IsBookOf, FailsAt}
use Rattle.fw_ledger.specs.Noted.{known_with, KnowSame, AreNotesOf, IsKnownOf}

-- a byte string spells at most one record
abbrev pub OneRecord : Type 0
OneRecord = (bytes : List ℕ) (a b : Entry) → Spells bytes a → Spells bytes b → a ≡ b

-- records have at most one book
abbrev pub OneBook : Type 0
OneBook = (head : ℕ) (records : List (List ℕ)) (a b : Contents) → IsBookOf head records a → IsBookOf head records b → a ≡ b

-- records of which one makes nothing have none
abbrev pub FailedHaveNone : Type 0
FailedHaveNone = (head : ℕ) (records : List (List ℕ)) (index : ℕ) (bytes : List ℕ) (book : Contents) → FailsAt head records index bytes → ¬ IsBookOf head records book

-- a front of records that have a book has one too, of which the rest makes the whole one
abbrev pub FrontsHaveBooks : Type 0
FrontsHaveBooks = (head : ℕ) (front rest : List (List ℕ)) (book : Contents) → IsBookOf head (front ++ rest) book → (between : Contents) × IsBookOf head front between × AddsAll rest between book

-- ---- notes

-- all that is known from the notes of a book's records is of that book, and the same is known from all readings of these records
pub record NotesOfBook (head : ℕ) (records : List (List ℕ)) (book : Contents) : Type 0 where
  pub some : (known : Known) × AreNotesOf records known
  pub one : (a b : Known) → AreNotesOf records a → AreNotesOf records b → KnowSame a b
  pub of_book : (known : Known) → AreNotesOf records known → IsKnownOf book known

abbrev pub BooksHaveNotes : Type 0
BooksHaveNotes = (head : ℕ) (records : List (List ℕ)) (book : Contents) → IsBookOf head records book → NotesOfBook head records book

-- what is known with one record more
abbrev pub NotesGoOn : Type 0
NotesGoOn = (records : List (List ℕ)) (bytes : List ℕ) (entry : Entry) (known : Known) → AreNotesOf records known → Spells bytes entry → AreNotesOf (records ++ bytes ∷ []) (known_with known entry)

-- from records without a note nothing is known
abbrev pub NothingNoted : Type 0
NothingNoted = (records : List (List ℕ)) (entries : List Entry) → SpellAll records entries → AllByRecursion (λ (entry : Entry). ¬ IsNote entry) entries → AreNotesOf records nothing_known
