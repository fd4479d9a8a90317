-- Public vocabulary: the bytes of a device, and what its calls make of them.
use Rattle.std.specs.Prelude.{◌≡◌, ℕ, ◌-◌, List, ◌++◌, length, take, replicate, Bool, IsTrue}
use Rattle.fw_store.specs.Device.{splice}

-- bytes that are cut to a length, or have zeros up to it
abbrev pub resized : List ℕ → ℕ → List ℕ
resized bytes len = take len bytes ++ replicate (len - length bytes) 0

-- the bytes after a write of `count` bytes that failed: any stand in their place, and the rest is as before
pub record TornAt (old : List ℕ) (at count : ℕ) (new : List ℕ) : Type 0 where
  pub left : List ℕ
  pub size : length left ≡ count
  pub stands : new ≡ splice old at left

-- what each call on a device keeps, whatever it answers and whether the device is honest or not
pub record KeepsDevice {D : Type 0} (honest sound : D → Bool) (room : D → ℕ) (old new : D) : Type 0 where
  pub honesty : honest new ≡ honest old
  pub soundness : IsTrue (sound old) → IsTrue (sound new)
  pub size : room new ≡ room old
