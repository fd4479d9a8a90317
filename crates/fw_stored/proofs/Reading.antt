-- Stores that are read.
use Rattle.std.proofs.Common.{◌≡◌, ℕ, List, sym, ap, subst, ◌∙◌}
use Rattle.std.specs.Prelude.{None}
use Rattle.fw_store.specs.Device.{Device}
use Rattle.fw_store.specs.Memory.{capacity_of, device_of, fuse_of}
use Rattle.fw_store.specs.StoreBytes.{IsStore, device_at}
use Rattle.fw_store.specs.declared.memory.MemoryStore.{MemoryStore}
use Rattle.fw_stored.specs.Stored.{IsReadFrom}

same_device : (a b : Device) → a.head ≡ b.head → a.first ≡ b.first → a.second ≡ b.second → a ≡ b
same_device a b head first second =
    ap (λ (x : List ℕ). make x a.first a.second) head ∙ ap (λ (x : List ℕ). make b.head x a.second) first ∙ ap (λ (x : List ℕ). make b.head b.first x) second
  where
    make : List ℕ → List ℕ → List ℕ → Device
    make h f s = record { head = h; first = f; second = s }

-- ---- a store that is read

pub read_from : (bytes : List ℕ) (capacity : ℕ) (store : MemoryStore) (head first second : List ℕ) → IsStore bytes capacity → capacity_of store ≡ capacity
    → device_of store ≡ record { head = head; first = first; second = second } → fuse_of store ≡ None
    → head ≡ (device_at capacity bytes).head → first ≡ (device_at capacity bytes).first → second ≡ (device_at capacity bytes).second → IsReadFrom bytes store
read_from bytes capacity store head first second is size made unfused heads firsts seconds = record {
  is = subst (λ (n : ℕ). IsStore bytes n) (sym size) is;
  device = same_device (device_of store) (device_at capacity bytes) (ap (λ (d : Device). d.head) made ∙ heads) (ap (λ (d : Device). d.first) made ∙ firsts)
      (ap (λ (d : Device). d.second) made ∙ seconds)
      ∙ ap (λ (n : ℕ). device_at n bytes) (sym size);
  unfused = unfused;
}
