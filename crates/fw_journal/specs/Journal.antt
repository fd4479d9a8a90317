-- Public vocabulary: what an open journal holds.
use Rattle.std.specs.Prelude.{◌≡◌, ◌≢◌, ◌<◌, ◌^◌, ℕ, List, [], length, Bool, IsTrue, false}
use Rattle.fw_journal.specs.Device.{IsSynced}
use Rattle.fw_journal.specs.Book.{blocks, book_front, book_bytes, AreRecords}
use Rattle.fw_journal.specs.declared.journal.Journal.{Journal}

abbrev pub device_of : {D : Type 0} → Journal D → D
device_of journal = journal.device

-- where its shut gate stands
abbrev pub end_of : {D : Type 0} → Journal D → ℕ
end_of journal = journal.end

-- the blocks that wait for the next commit
abbrev pub waiting_of : {D : Type 0} → Journal D → List ℕ
waiting_of journal = journal.waiting.items

-- a commit has failed
abbrev pub is_broken : {D : Type 0} → Journal D → Bool
is_broken journal = journal.broken

-- a commit is refused only out of memory or by its device: no commit has failed, something waits, and there is room for it
pub record MayCommit {D : Type 0} (journal : Journal D) : Type 0 where
  pub works : journal.broken ≡ false
  pub some : journal.waiting.items ≢ []
  pub end_fits : journal.end < 2 ^ 60
  pub waiting_fits : length journal.waiting.items < 2 ^ 60

-- its device is honest, has these records whatever a power cut leaves, and those wait for the next commit
pub record Has {D : Type 0} (honest : D → Bool) (contents : D → List ℕ) (may_leave : D → List ℕ → Type 0) (journal : Journal D) (done waiting : List (List ℕ)) : Type 0 where
  pub honesty : IsTrue (honest journal.device)
  pub done_fit : AreRecords done
  pub waiting_fit : AreRecords waiting
  pub bytes : contents journal.device ≡ book_bytes done
  pub ends : journal.end ≡ length (book_front done)
  pub waits : journal.waiting.items ≡ blocks waiting
  pub works : journal.broken ≡ false
  pub synced : IsSynced contents may_leave journal.device
