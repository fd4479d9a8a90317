-- Public vocabulary: a store in memory as a value.
use Rattle.std.specs.Prelude.{◌≡◌, ℕ, length, Bool, true, Option, is_none}
use Rattle.fw_store.specs.Device.{Device, slot_bytes}
use Rattle.fw_store.specs.Known.{Known}
use Rattle.fw_store.specs.Versions.{bytes_of}
use Rattle.fw_store.specs.Fuse.{lets_through, burnt}
use Rattle.fw_store.specs.Setup.{IsCapacity}
use Rattle.fw_store.specs.declared.fuse.Fuse.{Fuse}
use Rattle.fw_store.specs.declared.slot.Slot.{Slot}
use Rattle.fw_store.specs.declared.slot.Slot.TheVariants.{First, Second}
use Rattle.fw_store.specs.declared.memory.MemoryStore.{MemoryStore}

-- its header and slots
abbrev pub device_of : MemoryStore → Device
device_of m = record { head = bytes_of m.head.value; first = m.first.items; second = m.second.items }

-- the size of each slot
abbrev pub capacity_of : MemoryStore → ℕ
capacity_of m = m.capacity

-- how many of its calls have failed
abbrev pub faults_of : MemoryStore → ℕ
faults_of m = m.fault_count

abbrev pub fuse_of : MemoryStore → Option Fuse
fuse_of m = m.fuse

-- no fuse is set
abbrev pub is_sound : MemoryStore → Bool
is_sound m = is_none (fuse_of m)

-- what is known of it: all
abbrev pub known_of : MemoryStore → Known
known_of m = record {
  honest = true;
  sound = is_sound m;
  device = device_of m;
  capacity = capacity_of m;
  faults = faults_of m;
  fuse = fuse_of m;
}

-- each slot has the capacity
pub slot_size : (m : MemoryStore) (slot : Slot) → length (slot_bytes (device_of m) slot) ≡ capacity_of m
slot_size m First = m.first_size
slot_size m Second = m.second_size

-- and the capacity is one that an image can have
pub room_of : (m : MemoryStore) → IsCapacity (capacity_of m)
room_of m = m.room

-- when a call of the device succeeds, and what it leaves of the fuse
pub record IsFused (old new : MemoryStore) (succeeds : Bool) : Type 0 where
  pub through : succeeds ≡ lets_through (fuse_of old)
  pub burns : fuse_of new ≡ burnt (fuse_of old)

-- all but the fuse is as before
pub record KeepsAllButFuse (old new : MemoryStore) : Type 0 where
  pub device : device_of new ≡ device_of old
  pub size : capacity_of new ≡ capacity_of old
  pub count : faults_of new ≡ faults_of old

-- the capacities, headers and slots are the same
pub record IsSame (a b : MemoryStore) : Type 0 where
  pub size : capacity_of a ≡ capacity_of b
  pub device : device_of a ≡ device_of b
