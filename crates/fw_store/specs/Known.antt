-- Public vocabulary: what is known of a store.
use Rattle.std.specs.Prelude.{ℕ, Bool, Option}
use Rattle.fw_store.specs.Device.{Device}
use Rattle.fw_store.specs.declared.fuse.Fuse.{Fuse}

pub record Known : Type 0 where
  -- the store keeps what is written
  pub honest : Bool
  -- no call of it fails
  pub sound : Bool
  -- what it holds, if it is honest
  pub device : Device
  -- the size of each slot in bytes
  pub capacity : ℕ
  -- how often it has failed, up to the greatest number
  pub faults : ℕ
  -- how many of its calls succeed before all fail, and the byte that a failing write leaves, if that is known
  pub fuse : Option Fuse
