-- For private clauses alone: what records are refused for, which can be put into a journal, and what is put in where a row ends.
use Rattle.std.specs.Prelude.{◌≡◌, ◌≢◌, ◌⊎◌, ℕ, ◌<◌, ◌^◌, List, [], length, Option, Some, None, IsSome, Result, OnOk, OnErr, IsErrOf, IsTrue}
use Rattle.fw_book.specs.Contents.{Contents, offered_in}
use Rattle.fw_book.specs.Notes.{Known}
use Rattle.fw_head.specs.declared.news.News.{News}
use Rattle.fw_head.specs.declared.news.News.TheVariants as news
use Rattle.fw_journal.specs.Device.{LeavesOnly, Keeps as DeviceKeeps}
use Rattle.fw_journal.specs.Journal as journal
use Rattle.fw_journal.specs.declared.device.JournalDevice
use Rattle.fw_journal.specs.declared.journal.Journal.{Journal}
use Rattle.fw_ledger.specs.Entry.{Entry, mark, HasSpelling, entry_bytes}
use Rattle.fw_ledger.specs.Replay.{Makes, IsBookOf, FailsAt}
use Rattle.fw_ledger.specs.declared.error.ReplayError.{ReplayError}
use Rattle.fw_ledger.specs.declared.error.ReplayError.TheVariants as replay
use Rattle.fw_ledger.specs.declared.record.Ending.TheVariants as ending
use Rattle.fw_kept.specs.declared.error.OpenError.{OpenError}
use Rattle.fw_kept.specs.declared.error.OpenError.TheVariants.{BadBook, BadRecord, ForeignHead, BookFault, OutOfMemory}
use Rattle.fw_kept.specs.Kept.{HasNoted, IsForeign, Keeps}

-- the record with this index has no place in the book of those before it, and the first isn't another head end's
pub record IsBadAt (head : ℕ) (records : List (List ℕ)) (index : ℕ) : Type 0 where
  pub bad : List ℕ
  pub fails : FailsAt head records index bad
  pub own : ¬ IsForeign head records

-- what records are refused for
abbrev pub IsRecordsRefusal : ℕ → List (List ℕ) → OpenError → Type 0
IsRecordsRefusal head records (BadBook offset) = ⊥
IsRecordsRefusal head records (BadRecord index) = IsBadAt head records index
IsRecordsRefusal head records ForeignHead = IsForeign head records
IsRecordsRefusal head records BookFault = ⊥
IsRecordsRefusal head records OutOfMemory = Unit {0}

-- what records are read as, whoever's they are
abbrev pub AreReadAs : List (List ℕ) → Option Contents → Type 0
AreReadAs records None = records ≡ []
AreReadAs records (Some book) = IsBookOf book.head records book × (records ≢ [])

-- what they are refused for then
abbrev pub IsReadingRefusal : List (List ℕ) → ReplayError → Type 0
IsReadingRefusal records (replay.BadRecord index) = (head : ℕ) × IsBadAt head records index
IsReadingRefusal records replay.OutOfMemory = records ≢ []

-- the record has a spelling, of fewer than 2^32 bytes
pub record CanBeKept (entry : Entry) : Type 0 where
  pub can : HasSpelling entry
  pub short : length (entry_bytes entry) < 2 ^ 32

-- a row that ended did so in a campaign of the book
abbrev pub IsNewsOf : Contents → News → Type 0
IsNewsOf book news.Nothing = Unit {0}
IsNewsOf book news.Moved = Unit {0}
IsNewsOf book (news.Done campaign meter) = IsSome (offered_in book campaign)
IsNewsOf book (news.Failed campaign meter) = IsSome (offered_in book campaign)

-- what these news make of a book: a row that ended is marked
abbrev pub NewsMake : News → Contents → Contents → Type 0
NewsMake news.Nothing book next = next ≡ book
NewsMake news.Moved book next = next ≡ book
NewsMake (news.Done campaign meter) book next = Makes (mark campaign meter ending.Done) book next
NewsMake (news.Failed campaign meter) book next = Makes (mark campaign meter ending.Failed) book next

-- A call that puts all that waits on the device of a journal, and makes `next` of the book that its records are of, and `later` of what
-- their notes say: what `Commits` says of a head end, of its journal alone.
pub record Puts {D T E : Type 0} (J : JournalDevice.Ghosts D) (fault : E) (old : Journal D) (result : Result T E) (new : Journal D) (book next : Contents) (known later : Known) : Type 0 where
  pub acknowledged : (head : ℕ) (synced : Contents) (noted : Known) → Keeps J.honest J.contents J.may_leave head old synced book noted known → OnOk result (Keeps J.honest J.contents J.may_leave head new next next later later)
  pub unchanged : (head : ℕ) (synced : Contents) (noted : Known) → Keeps J.honest J.contents J.may_leave head old synced book noted known
      → OnErr result (Keeps J.honest J.contents J.may_leave head new synced book noted known ⊎ IsTrue (journal.is_broken new))
  pub any_moment : (head : ℕ) (synced : Contents) (noted : Known) → Keeps J.honest J.contents J.may_leave head old synced book noted known
      → LeavesOnly J.moment J.left_since (journal.device_of old) (journal.device_of new) (λ left. HasNoted head left synced noted ⊎ HasNoted head left next later)
  pub breaks : IsErrOf result fault → IsTrue (journal.is_broken new)
  pub never : IsTrue (J.sound (journal.device_of old)) → IsErrOf result fault → IsTrue (journal.is_broken old)
  pub kept : DeviceKeeps J.honest J.sound (journal.device_of old) (journal.device_of new)
