-- What a store over a device keeps: its layout, and the law that each of its slots has the capacity. For its private members alone:
-- no public clause cites it.
use Rattle.std.specs.Prelude.{◌≡◌, ℕ, ◌+◌, ◌-◌, ◌*◌, ◌≤◌, List, length, take, drop, replicate}
use Rattle.std.specs.Int.{w32, to_be_bytes}
use Rattle.std.proofs.Common.{arith, length-drop}
use Rattle.std.proofs.lemmas.List.{length-take}
use Rattle.fw_store.specs.Device.{slot_bytes}
use Rattle.fw_store.specs.Setup.{IsCapacity}
use Rattle.fw_store.specs.StoreBytes.{device_at, store_size, old_store_size}
use Rattle.fw_store.specs.declared.slot.Slot.{Slot}
use Rattle.fw_store.specs.declared.slot.Slot.TheVariants.{First, Second}
use Rattle.fw_store.specs.declared.tail.Tail.{Tail}
use Rattle.fw_store.specs.declared.tail.Tail.TheVariants.{Empty, Releases, Marks}
use Rattle.fw_store.specs.declared.version.HeaderVersion.{HeaderVersion}
use Rattle.fw_store.specs.declared.version.HeaderVersion.TheVariants.{One, Two}

-- the version of the header of a store that has this after its slots
abbrev pub version_in : Tail → HeaderVersion
version_in Empty = One
version_in Releases = One
version_in Marks = Two

-- what stands there where a header of a version was written
abbrev pub tail_of : HeaderVersion → Tail
tail_of One = Releases
tail_of Two = Marks

-- how many bytes a store has that has this after its slots
abbrev pub stored_size : Tail → ℕ → ℕ
stored_size Empty capacity = old_store_size capacity
stored_size Releases capacity = store_size One capacity
stored_size Marks capacity = store_size Two capacity

-- bytes of a store that has this after its slots
pub record IsLaidOut (tail : Tail) (capacity : ℕ) (bytes : List ℕ) : Type 0 where
  pub begins : take 4 bytes ≡ to_be_bytes w32 capacity
  pub room : IsCapacity capacity
  pub size : length bytes ≡ stored_size tail capacity

-- as many bytes as this, with zeros behind the first four
pub record IsBlank (count : ℕ) (bytes : List ℕ) : Type 0 where
  pub size : length bytes ≡ count
  pub zeros : drop 4 bytes ≡ replicate (count - 4) 0

-- its slots are within its bytes
pub slots_within : (tail : Tail) (capacity : ℕ) (bytes : List ℕ) → IsLaidOut tail capacity bytes → old_store_size capacity ≤ length bytes
slots_within Empty capacity bytes is = omega arith
slots_within Releases capacity bytes is = omega arith
slots_within Marks capacity bytes is = omega arith

pub slot_size : (tail : Tail) (capacity : ℕ) (bytes : List ℕ) → IsLaidOut tail capacity bytes → (slot : Slot)
    → length (slot_bytes (device_at capacity bytes) slot) ≡ capacity
slot_size tail capacity bytes is First =
    let within : 618 + 2 * capacity ≤ length bytes = slots_within tail capacity bytes is in
    omega (arith, length-take (618 + capacity - 618) (drop 618 bytes), length-drop 618 bytes)
slot_size tail capacity bytes is Second =
    let within : 618 + 2 * capacity ≤ length bytes = slots_within tail capacity bytes is in
    omega (arith, length-take (618 + capacity + capacity - (618 + capacity)) (drop (618 + capacity) bytes), length-drop (618 + capacity) bytes)
