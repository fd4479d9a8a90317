-- Public vocabulary: a store as a byte string: the capacity in four bytes, high byte first, the first 614 bytes of the header, the two
-- slots, and the other bytes of the header (own). These are the releases, 8 bytes, and in version 2 the marks of the blocks from 4,096
-- on. A store without releases is an old one of version 1: its releases are 0.
use Rattle.std.specs.Prelude.{◌≡◌, ◌⊎◌, ◌==◌, ◌&&◌, Bool, if◌then◌else◌, nat_le, ℕ, ◌+◌, ◌*◌, List, ◌++◌, length, take, drop, replicate, slice_range, None}
use Rattle.std.specs.Int.{w32, to_be_bytes}
use Rattle.fw_store.specs.Device.{Device}
use Rattle.fw_store.specs.Known.{Known}
use Rattle.fw_store.specs.Setup.{IsCapacity}
use Rattle.fw_store.specs.Versions.{header_size}
use Rattle.fw_store.specs.declared.version.HeaderVersion.{HeaderVersion}
use Rattle.fw_store.specs.declared.version.HeaderVersion.TheVariants.{One, Two}
use Rattle.fw_store.specs.declared.slot.Slot.{Slot}
use Rattle.fw_store.specs.declared.slot.Slot.TheVariants.{First, Second}

-- the bytes of a store without releases
abbrev pub old_store_bytes : ℕ → Device → List ℕ
old_store_bytes capacity d = to_be_bytes w32 capacity ++ take 614 d.head ++ d.first ++ d.second

-- the bytes of a store
abbrev pub store_bytes : ℕ → Device → List ℕ
store_bytes capacity d = old_store_bytes capacity d ++ drop 614 d.head

-- how many bytes a store without releases has: the releases stand after them
abbrev pub old_store_size : ℕ → ℕ
old_store_size capacity = 618 + 2 * capacity

-- how many bytes a store with a header of this version has
abbrev pub store_size : HeaderVersion → ℕ → ℕ
store_size version capacity = 4 + header_size version + 2 * capacity

-- where a slot begins
abbrev pub slot_start : ℕ → Slot → ℕ
slot_start capacity First = 618
slot_start capacity Second = 618 + capacity

-- bytes that begin with a capacity within its limits, and are as many as those of such a store, in either version, or without releases
pub record IsStore (bytes : List ℕ) (capacity : ℕ) : Type 0 where
  pub begins : take 4 bytes ≡ to_be_bytes w32 capacity
  pub room : IsCapacity capacity
  pub size : (length bytes ≡ store_size Two capacity) ⊎ (length bytes ≡ store_size One capacity) ⊎ (length bytes ≡ old_store_size capacity)

-- the last bytes of the header, which stand after the slots: zeros for releases that are not there
abbrev pub tail_at : ℕ → List ℕ → List ℕ
tail_at capacity bytes = if length bytes == old_store_size capacity then replicate 8 0 else drop (old_store_size capacity) bytes

-- what they hold
abbrev pub device_at : ℕ → List ℕ → Device
device_at capacity bytes = record {
  head = slice_range bytes 4 618 ++ tail_at capacity bytes;
  first = slice_range bytes 618 (618 + capacity);
  second = slice_range bytes (618 + capacity) (618 + capacity + capacity);
}

-- bytes that hold a store: its own, or, if its releases are 0 and it has no other bytes of a header after them, those of one without
abbrev pub HoldsStore : List ℕ → ℕ → Device → Type 0
HoldsStore bytes capacity d = (bytes ≡ store_bytes capacity d) ⊎ ((bytes ≡ old_store_bytes capacity d) × (drop 614 d.head ≡ replicate 8 0))

-- whether a device has room for every header of a store, whichever version it is of
abbrev pub has_room : ℕ → ℕ → Bool
has_room room capacity = nat_le (store_size Two capacity) room

-- what is known of a store over a device of which this is known: whether it is honest and sound, its room, and its bytes
abbrev pub known_on : Bool → Bool → ℕ → List ℕ → ℕ → ℕ → Known
known_on honest sound room bytes capacity faults = record {
  honest = honest;
  sound = sound && has_room room capacity;
  device = device_at capacity bytes;
  capacity = capacity;
  faults = faults;
  fuse = None;
}
