-- Public vocabulary: a header write of a store in files that may be cut at any moment, and what the next opening finds.
use Rattle.std.specs.Prelude.{◌≡◌, ◌⊎◌, ℕ, List, take, drop}
use Rattle.fw_cuts.specs.Write.{Write}
use Rattle.fw_cuts.specs.Both.{Both}
use Rattle.fw_cuts.specs.Cuts.{Seen}
use Rattle.fw_cuts.specs.Rest.{write_on, IsAtRest, IsChance}
use Rattle.fw_store.specs.Device.{with_head}
use Rattle.fw_store.specs.StoreBytes.{IsStore, device_at, old_store_size}

-- what replaces the header of a store: its first 614 bytes stand behind the capacity, and the others after the slots, up to the end
abbrev pub header_write : ℕ → List ℕ → List ℕ → Write
header_write capacity head store = write_on store 4 (take 614 head) (old_store_size capacity) (drop 614 head)

-- the files of a store of this capacity between two header writes: what was written since the last one is in its slots
pub record IsResting (capacity : ℕ) (seen : Seen) : Type 0 where
  pub is : IsStore seen.held.store capacity
  pub rest : IsAtRest 618 (old_store_size capacity) seen

-- FILE as a power cut before the write may have left it, which has the old header
pub record IsAsBefore (capacity : ℕ) (old : Seen) (made : List ℕ) : Type 0 where
  pub earlier : Both
  pub left : old.may_leave earlier
  pub same : made ≡ earlier.store
  pub head : (device_at capacity made).head ≡ (device_at capacity old.held.store).head

-- a store of this capacity: as before the write, or with all of the new header and the slots as they were read
pub record IsWhole (capacity : ℕ) (header : List ℕ) (old : Seen) (made : List ℕ) : Type 0 where
  pub is : IsStore made capacity
  pub device : IsAsBefore capacity old made ⊎ (device_at capacity made ≡ with_head (device_at capacity old.held.store) header)

-- that is what an opening made of what was left, unless by chance
abbrev pub IsFoundWhole : ℕ → List ℕ → Seen → Both → List ℕ → Type 0
IsFoundWhole capacity header old left made =
    IsWhole capacity header old made ⊎ IsChance old.held.journal (header_write capacity header old.held.store) left.journal
