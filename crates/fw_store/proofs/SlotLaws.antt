-- What is read of a slot after a write.
use Rattle.std.proofs.Common.{◌≡◌, ◌≢◌, ℕ, ◌+◌, ◌≤◌, List, length, slice_range, refl, ◌⊎◌, inl, inr, arith}
use Rattle.fw_store.specs.Device.{Device, slot_bytes, with_head, written, splice}
use Rattle.fw_store.specs.declared.slot.Slot.{Slot}
use Rattle.fw_store.specs.declared.slot.Slot.TheVariants.{First, Second}
use Rattle.fw_store.proofs.SliceLemmas.{slice_there, slice_before, slice_after}

pub written_is_read : (d : Device) (slot : Slot) (at : ℕ) (bytes : List ℕ) → at + length bytes ≤ length (slot_bytes d slot)
    → slice_range (slot_bytes (written d slot at bytes) slot) at (at + length bytes) ≡ bytes
written_is_read d First at bytes fits = slice_there d.first at bytes (at + length bytes) refl fits
written_is_read d Second at bytes fits = slice_there d.second at bytes (at + length bytes) refl fits

elsewhere : (old : List ℕ) (at from to : ℕ) (bytes : List ℕ) → at + length bytes ≤ length old → (from ≤ to × to ≤ at) ⊎ (at + length bytes ≤ from)
    → slice_range (splice old at bytes) from to ≡ slice_range old from to
elsewhere old at from to bytes fits (inl before) = slice_before old at bytes from to before.0 before.1 (omega arith)
elsewhere old at from to bytes fits (inr after) = slice_after old at bytes from to after fits

pub others_are_read : (d : Device) (slot : Slot) (at from to : ℕ) (bytes : List ℕ) → at + length bytes ≤ length (slot_bytes d slot)
    → (from ≤ to × to ≤ at) ⊎ (at + length bytes ≤ from)
    → slice_range (slot_bytes (written d slot at bytes) slot) from to ≡ slice_range (slot_bytes d slot) from to
others_are_read d First at from to bytes fits apart = elsewhere d.first at from to bytes fits apart
others_are_read d Second at from to bytes fits apart = elsewhere d.second at from to bytes fits apart

pub other_slot_stays : (d : Device) (slot other : Slot) (at : ℕ) (bytes : List ℕ) → other ≢ slot → slot_bytes (written d slot at bytes) other ≡ slot_bytes d other
other_slot_stays d First First at bytes differs = absurd (differs refl)
other_slot_stays d First Second at bytes differs = refl
other_slot_stays d Second First at bytes differs = refl
other_slot_stays d Second Second at bytes differs = absurd (differs refl)

pub header_stays : (d : Device) (slot : Slot) (at : ℕ) (bytes : List ℕ) → (written d slot at bytes).head ≡ d.head
header_stays d First at bytes = refl
header_stays d Second at bytes = refl

pub slots_stay : (d : Device) (slot : Slot) (head : List ℕ) → slot_bytes (with_head d head) slot ≡ slot_bytes d slot
slots_stay d First head = refl
slots_stay d Second head = refl
