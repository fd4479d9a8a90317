-- Public vocabulary: what an honest store holds, a header and two slots, and what a write makes of it.
use Rattle.std.specs.Prelude.{◌≡◌, ℕ, ◌+◌, ◌-◌, List, ◌++◌, length, take, drop, replicate}
use Rattle.fw_store.specs.declared.slot.Slot.{Slot}
use Rattle.fw_store.specs.declared.slot.Slot.TheVariants.{First, Second}

pub record Device : Type 0 where
  pub head : List ℕ
  pub first : List ℕ
  pub second : List ℕ

abbrev pub slot_bytes : Device → Slot → List ℕ
slot_bytes d First = d.first
slot_bytes d Second = d.second

-- the device with another header
abbrev pub with_head : Device → List ℕ → Device
with_head d head = record d { head = head }

-- the device with other bytes in a slot
abbrev pub with_slot : Device → Slot → List ℕ → Device
with_slot d First bytes = record d { first = bytes }
with_slot d Second bytes = record d { second = bytes }

-- a byte string in which these bytes stand at an offset, in place of as many others
abbrev pub splice : List ℕ → ℕ → List ℕ → List ℕ
splice old at bytes = take at old ++ bytes ++ drop (at + length bytes) old

-- the device after a write into a slot
abbrev pub written : Device → Slot → ℕ → List ℕ → Device
written d slot at bytes = with_slot d slot (splice (slot_bytes d slot) at bytes)

-- the device after a write of `count` bytes that failed: any bytes stand in their place, and the rest is as before
pub record Torn (old : Device) (slot : Slot) (at count : ℕ) (new : Device) : Type 0 where
  pub left : List ℕ
  pub size : length left ≡ count
  pub stands : new ≡ written old slot at left

-- an image and zeros up to the capacity
abbrev pub padded : List ℕ → ℕ → List ℕ
padded image capacity = image ++ replicate (capacity - length image) 0
