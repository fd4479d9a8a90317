-- Public vocabulary: when a call on a store fails, and what each call keeps.
use Rattle.std.specs.Prelude.{◌≡◌, ◌↔◌, ℕ, ◌+◌, ◌-◌, ◌≤◌, ◌^◌, min, Bool, true, false, IsTrue, IsOk, is_ok, Result, Option, Some}
use Rattle.fw_store.specs.declared.error.StoreFault.{StoreFault}
use Rattle.fw_store.specs.declared.fuse.Fuse.{Fuse}
use Rattle.fw_store.specs.Known.{Known}

-- the greatest count of faults: it stays there
abbrev pub most_faults : ℕ
most_faults = 2 ^ 64 - 1

-- the count after a call: one that failed is counted, once, and no other
abbrev pub count_after : Bool → ℕ → ℕ
count_after true count = count
count_after false count = min (count + 1) most_faults

-- what each call keeps, whatever it answers and whether the store is honest or not
pub record Keeps (old new : Known) : Type 0 where
  pub honesty : new.honest ≡ old.honest
  pub soundness : IsTrue old.sound → IsTrue new.sound
  pub size : new.capacity ≡ old.capacity
  pub later : old.faults ≤ new.faults

-- A call's failure is counted, and a sound store doesn't fail. What makes several calls of a store keeps this too, as long as it makes
-- none after one that failed. At the greatest number the count tells no more.
pub record HasCause {T : Type 0} (sound : Bool) (before after : ℕ) (result : Result T StoreFault) : Type 0 where
  pub counted : after ≡ count_after (is_ok result) before
  pub never : IsTrue sound → IsOk result

-- What N calls make of a fuse, if it is known: none of them failed just if as many were left, and they are used up. Calls that end
-- with one that failed are counted as many as there would have been.
pub record Spends (calls : ℕ) (old new : Option Fuse) (faultless : Bool) : Type 0 where
  pub told : (fuse : Fuse) → old ≡ Some fuse → IsTrue faultless ↔ (calls ≤ fuse.calls)
  pub used : (fuse : Fuse) → old ≡ Some fuse → new ≡ Some (record fuse { calls = fuse.calls - calls })
