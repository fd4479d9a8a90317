-- Of private functions: when a device takes a group of records, and when its end can be mended.
use Rattle.std.specs.Prelude.{◌≡◌, ◌≤◌, ℕ, List, [], ◌∷◌, ◌++◌, length, Bool, IsTrue}
use Rattle.fw_journal.specs.Device.{IsSynced}
use Rattle.fw_journal.specs.Book.{blocks, book_front, book_bytes, AreRecords, Stands}

-- The device is honest and has these records, and its gate stands at the end of them. The group is some records and a shut gate.
pub record Takes {D : Type 0} (honest : D → Bool) (contents : D → List ℕ) (may_leave : D → List ℕ → Type 0) (device : D) (end : ℕ) (group : List ℕ) (done waiting : List (List ℕ)) : Type 0 where
  pub honesty : IsTrue (honest device)
  pub done_fit : AreRecords done
  pub waiting_fit : AreRecords waiting
  pub bytes : contents device ≡ book_bytes done
  pub ends : end ≡ length (book_front done)
  pub group_is : group ≡ blocks waiting ++ 0 ∷ []
  pub some : 1 ≤ length (blocks waiting)
  pub synced : IsSynced contents may_leave device

-- the device is honest and synced, and its bytes are a journal of these records, which end there
pub record EndsAt {D : Type 0} (honest : D → Bool) (contents : D → List ℕ) (may_leave : D → List ℕ → Type 0) (device : D) (end : ℕ) (records : List (List ℕ)) : Type 0 where
  pub honesty : IsTrue (honest device)
  pub stands : Stands (contents device) records
  pub ends : end ≡ length (book_front records)
  pub synced : IsSynced contents may_leave device
