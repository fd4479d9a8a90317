-- Public vocabulary: the laws of what stores hold and of faults. They speak of definitions alone.
use Rattle.std.specs.Prelude.{◌≡◌, ◌≢◌, ◌⊎◌, ℕ, ◌+◌, ◌<◌, ◌≤◌, Bool, true, false, List, Option, length, take, drop, slice_range}
use Rattle.fw_store.specs.Device.{Device, slot_bytes, with_head, splice, written}
use Rattle.fw_store.specs.Faults.{most_faults, count_after, Spends}
use Rattle.fw_store.specs.Fuse.{half_torn}
use Rattle.fw_store.specs.StoreBytes.{IsStore, HoldsStore, device_at}
use Rattle.fw_store.specs.Versions.{header_size}
use Rattle.fw_store.specs.declared.fuse.Fuse.{Fuse}
use Rattle.fw_store.specs.declared.slot.Slot.{Slot}
use Rattle.fw_store.specs.declared.version.HeaderVersion.{HeaderVersion}

-- a byte string into which others were written at an offset
pub record StandsIn (old : List ℕ) (at : ℕ) (bytes new : List ℕ) : Type 0 where
  pub size : length new ≡ length old
  pub before : take at new ≡ take at old
  pub there : slice_range new at (at + length bytes) ≡ bytes
  pub behind : drop (at + length bytes) new ≡ drop (at + length bytes) old
  -- a front in which they are is one into which they were written
  pub front : (n : ℕ) → at + length bytes ≤ n → n ≤ length old → take n new ≡ splice (take n old) at bytes

abbrev pub SpliceStands : Type 0
SpliceStands = (old : List ℕ) (at : ℕ) (bytes : List ℕ) → at + length bytes ≤ length old → StandsIn old at bytes (splice old at bytes)

-- what was written is read
abbrev pub WrittenIsRead : Type 0
WrittenIsRead = (d : Device) (slot : Slot) (at : ℕ) (bytes : List ℕ) → at + length bytes ≤ length (slot_bytes d slot)
    → slice_range (slot_bytes (written d slot at bytes) slot) at (at + length bytes) ≡ bytes

-- before it and behind it, what is read is as before
abbrev pub OthersAreRead : Type 0
OthersAreRead = (d : Device) (slot : Slot) (at from to : ℕ) (bytes : List ℕ) → at + length bytes ≤ length (slot_bytes d slot)
    → (from ≤ to × to ≤ at) ⊎ (at + length bytes ≤ from)
    → slice_range (slot_bytes (written d slot at bytes) slot) from to ≡ slice_range (slot_bytes d slot) from to

-- a write leaves the other slot, and the header
abbrev pub OtherSlotStays : Type 0
OtherSlotStays = (d : Device) (slot other : Slot) (at : ℕ) (bytes : List ℕ) → other ≢ slot
    → slot_bytes (written d slot at bytes) other ≡ slot_bytes d other

abbrev pub HeaderStays : Type 0
HeaderStays = (d : Device) (slot : Slot) (at : ℕ) (bytes : List ℕ) → (written d slot at bytes).head ≡ d.head

-- a header write leaves the slots
abbrev pub SlotsStay : Type 0
SlotsStay = (d : Device) (slot : Slot) (head : List ℕ) → slot_bytes (with_head d head) slot ≡ slot_bytes d slot

-- a store's bytes are its fields, one after the other, except the releases of an old one
abbrev pub FieldsJoin : Type 0
FieldsJoin = (bytes : List ℕ) (capacity : ℕ) → IsStore bytes capacity → HoldsStore bytes capacity (device_at capacity bytes)

-- and from them the device is read back
abbrev pub DeviceIsRead : Type 0
DeviceIsRead = (d : Device) (version : HeaderVersion) (capacity : ℕ) (bytes : List ℕ) → length d.head ≡ header_size version → length d.first ≡ capacity → length d.second ≡ capacity
    → HoldsStore bytes capacity d → device_at capacity bytes ≡ d

-- after a failure the count rose, or stood at its greatest number
abbrev pub FaultsShow : Type 0
FaultsShow = (count : ℕ) → count < most_faults → count < count_after false count

-- what a write that failed half way leaves has the size of what was to be written
abbrev pub TornSize : Type 0
TornSize = (bytes : List ℕ) (torn : ℕ) → length (half_torn bytes torn) ≡ length bytes

-- calls after calls of which none failed are as many calls as both together
abbrev pub CallsAdd : Type 0
CallsAdd = (calls more : ℕ) (old between new : Option Fuse) (faultless : Bool) → Spends calls old between true → Spends more between new faultless
    → Spends (calls + more) old new faultless

-- after a call that failed, those that are not made are counted like it
abbrev pub CallsEnd : Type 0
CallsEnd = (calls all : ℕ) (old new : Option Fuse) → calls ≤ all → Spends calls old new false → Spends all old new false
