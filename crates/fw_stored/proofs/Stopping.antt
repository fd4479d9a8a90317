-- What is left of a meter that is stopped.
use Rattle.std.proofs.Common.{◌≡◌, ℕ, refl, sym, subst, ◌∙◌}
use Rattle.fw_store.specs.Device.{Device}
use Rattle.fw_store.specs.Known.{Known}
use Rattle.fw_store.specs.Memory.{IsSame, KeepsAllButFuse, capacity_of, device_of, known_of}
use Rattle.fw_store.specs.declared.memory.MemoryStore.{MemoryStore}
use Rattle.fw_image.specs.Meter.{Meter, reopened}
use Rattle.fw_image.specs.State.{State, stored}
use Rattle.fw_image.specs.Stored.{Holds, IsMeterOf}

-- the same store holds the same meter
pub same_meter : (meter : Meter) (a b : MemoryStore) → IsSame a b → IsMeterOf (capacity_of b) (device_of b) meter → IsMeterOf (capacity_of a) (device_of a) meter
same_meter meter a b same is =
    subst (λ (n : ℕ). IsMeterOf n (device_of a) meter) (sym same.size) (subst (λ (d : Device). IsMeterOf (capacity_of b) d meter) (sym same.device) is)

-- ---- what the store holds that it gives

pub left_meter : (state : State) (old new : MemoryStore) → Holds (known_of old) (stored state) → KeepsAllButFuse old new
    → IsMeterOf (capacity_of new) (device_of new) (reopened state.meter)
left_meter state old new holds keeps =
    same_meter (reopened state.meter) new old (record { size = keeps.size; device = keeps.device }) (holds.means refl)

pub left_size : (state : State) (old new : MemoryStore) → Holds (known_of old) (stored state) → KeepsAllButFuse old new → capacity_of new ≡ state.meter.capacity
left_size state old new holds keeps = keeps.size ∙ sym holds.size

-- the store of a meter once more holds the same meter
pub copied_meter : (meter : Meter) (copy store : MemoryStore) → known_of copy ≡ known_of store → IsMeterOf (capacity_of store) (device_of store) meter
    → IsMeterOf (capacity_of copy) (device_of copy) meter
copied_meter meter copy store same is = subst (λ (k : Known). IsMeterOf k.capacity k.device meter) (sym same) is
