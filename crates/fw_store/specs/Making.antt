-- Public vocabulary: what the making of a store finds in its way, and what it leaves when it is cut.
use Rattle.std.specs.Prelude.{◌≡◌, ◌⊎◌, ℕ, ◌-◌, List, ◌++◌, replicate}
use Rattle.std.specs.Int.{w32, to_be_bytes}
use Rattle.fw_disk.specs.declared.cause.Cause.{Cause}
use Rattle.fw_disk.specs.declared.cause.Cause.TheVariants.{NotAlone, Foreign}
use Rattle.fw_disk.specs.declared.name.Name.{Name}
use Rattle.fw_disk.specs.declared.name.Name.TheVariants.{New, Journal}
use Rattle.fw_disk.specs.declared.reason.Reason.{Reason}
use Rattle.fw_disk.specs.Disk.{Disk, ChangesOnly}
use Rattle.fw_disk.specs.Calls.{NoName}
use Rattle.fw_disk.specs.Ours.{IsOurs}
use Rattle.fw_store.specs.Setup.{IsCapacity}
use Rattle.fw_store.specs.StoreBytes.{store_size}
use Rattle.fw_store.specs.Beside.{IsBegunStore, IsUndoFile}
use Rattle.fw_store.specs.declared.version.HeaderVersion.TheVariants.{Two}

-- a cause which says that a file isn't ours comes only if no file of ours has the name
abbrev pub IsNotOurs : (List ℕ → Type 0) → Disk → Name → Cause → Type 0
IsNotOurs ours disk name cause = (cause ≡ NotAlone) ⊎ (cause ≡ Foreign) → (n : ℕ) → ¬ IsOurs ours disk name n

-- the reason why a store can't be made tells the truth, if it says that a file isn't ours: no FILE.new of a store has that name, or no
-- FILE.journal
pub record IsInTheWay (disk : Disk) (r : Reason) : Type 0 where
  pub store : r.name ≡ New → IsNotOurs IsBegunStore disk New r.cause
  pub undo : r.name ≡ Journal → IsNotOurs IsUndoFile disk Journal r.cause

-- a store whose room is taken: its capacity, and zeros
abbrev pub begun_bytes : ℕ → List ℕ
begun_bytes capacity = to_be_bytes w32 capacity ++ replicate (store_size Two capacity - 4) 0

-- the bytes of the file alone change, and it is what is left of a store that is made
pub record TakesRoom (capacity n : ℕ) (old new : Disk) : Type 0 where
  pub only : ChangesOnly NoName (λ m. m ≡ n) old new
  pub left_over : IsCapacity capacity → IsBegunStore (new.bytes n)
