-- Public vocabulary: the laws of the bytes of a journal. They speak of definitions alone.
use Rattle.std.specs.Prelude.{◌≡◌, ◌⊎◌, ℕ, List, []}
use Rattle.fw_disk.specs.Ours.{Starts}
use Rattle.fw_journal.specs.Book.{AreRecords, Stands, IsBadBook, HasBlocks, book_bytes}
use Rattle.fw_journal.specs.Begun.{IsBegunJournal}
use Rattle.fw_journal.specs.Device.{IsTorn}
use Rattle.fw_journal.specs.Past.{Held, MayLeave, AreBytes, IsCut}

-- bytes stand for one list of records at most
abbrev pub OneReading : Type 0
OneReading = (bytes : List ℕ) (some others : List (List ℕ)) → Stands bytes some → Stands bytes others → some ≡ others

-- bad ones stand for none
abbrev pub BadIsNone : Type 0
BadIsNone = (bytes : List ℕ) (offset : ℕ) (records : List (List ℕ)) → IsBadBook bytes offset → Stands bytes records → ⊥

-- a journal between two calls stands for its records
abbrev pub BookStands : Type 0
BookStands = (records : List (List ℕ)) → AreRecords records → Stands (book_bytes records) records

-- bytes have one number of whole records one after another, each behind one byte
abbrev pub OneCount : Type 0
OneCount = (bytes : List ℕ) (some others : ℕ) → HasBlocks some bytes → HasBlocks others bytes → some ≡ others

-- Bytes that a power cut may leave of a device in memory are those that are read, or what a cut leaves where the changes since the last sync
-- have some fates.
abbrev pub EachIsCut : Type 0
EachIsCut = (held : Held) (left : List ℕ) → AreBytes held.synced → AreBytes left → MayLeave held left → (left ≡ held.bytes) ⊎ IsCut held left

-- what a cut making leaves of a file without bytes is left of a journal that is made
abbrev pub CutMakingsBegin : Type 0
CutMakingsBegin = (left : List ℕ) → IsTorn 0 5 [] left → IsBegunJournal left

-- a file that has the first five bytes of a journal counts as left of a journal that is made
abbrev pub FirstBytesBegin : Type 0
FirstBytesBegin = (records : List (List ℕ)) → Starts IsBegunJournal 5 (book_bytes records)
