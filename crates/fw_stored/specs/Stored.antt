-- Public vocabulary: a store in memory that was read from bytes, and a meter over one.
use Rattle.std.specs.Prelude.{◌≡◌, ℕ, IsTrue, List, None}
use Rattle.fw_cuts.specs.Write.{Write, IsWrite, journal_bytes}
use Rattle.fw_cuts.specs.Sectors.{IsTornIn}
use Rattle.fw_store.specs.Memory.{capacity_of, device_of, fuse_of}
use Rattle.fw_store.specs.StoreBytes.{IsStore, device_at}
use Rattle.fw_store.specs.declared.memory.MemoryStore.{MemoryStore}
use Rattle.fw_image.specs.State.{State}

-- The bytes are a store of this capacity, this is what they hold, and no fuse is set.
pub record IsReadFrom (bytes : List ℕ) (store : MemoryStore) : Type 0 where
  pub is : IsStore bytes (capacity_of store)
  pub device : device_of store ≡ device_at (capacity_of store) bytes
  pub unfused : fuse_of store ≡ None

-- The bytes beside a store are the journal of a header write, which a cut left in the store half done.
pub record IsTornBy (undo store : List ℕ) : Type 0 where
  pub write : Write
  pub is : IsWrite write
  pub journal : undo ≡ journal_bytes write
  pub torn : IsTornIn write store

-- The store of a meter gives what was written, and no call of it fails.
pub record IsSound (state : State) : Type 0 where
  pub honest : IsTrue state.honest
  pub sound : IsTrue state.sound
