-- Public vocabulary: that an opening cuts nothing off a journal that reads as records, unless that is kept.
use Rattle.std.specs.Prelude.{◌≡◌, ◌⊎◌, ℕ, ◌≤◌, List}
use Rattle.fw_journal.specs.Device.{LeavesOnly}
use Rattle.fw_journal.specs.Book.{Drops}
use Rattle.fw_journal.specs.declared.device.JournalDevice
use Rattle.fw_journal.specs.declared.keeping.Keeper

-- what is read is as before, and a cut at any moment of these calls leaves what one before them might have left
pub record IsUntouched {D : Type 0} (J : JournalDevice.Ghosts D) (old new : D) : Type 0 where
  pub same : J.contents new ≡ J.contents old
  pub moments : LeavesOnly J.moment J.left_since old new (J.may_leave old)

-- Where a whole record stands behind the shut gate, the keeper holds all that stands from that gate on, or the device was only read. Where
-- none does, the keeper is as it was.
pub record KeepsFirst {D K : Type 0} (J : JournalDevice.Ghosts D) (Kept : Keeper.Ghosts K) (old new : D) (keeper later : K) : Type 0 where
  pub first : (rest : List ℕ) (count : ℕ) → Drops (J.contents old) rest count → 1 ≤ count → Kept.holds later rest ⊎ IsUntouched J old new
  pub nothing_else : (rest : List ℕ) → Drops (J.contents old) rest 0 → later ≡ keeper
