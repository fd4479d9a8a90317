-- Public vocabulary: the two slots of a store.
use Rattle.fw_store.specs.declared.slot.Slot.{Slot}
use Rattle.fw_store.specs.declared.slot.Slot.TheVariants.{First, Second}

-- the slot that is not this one
abbrev pub other : Slot → Slot
other First = Second
other Second = First
