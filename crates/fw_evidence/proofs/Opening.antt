-- Stores that are opened, and what they hold.
use Rattle.std.proofs.Common.{◌≡◌, ◌≢◌, ℕ, List, true, false, inr, refl, sym, subst}
use Rattle.std.specs.Prelude.{IsTrue}
use Rattle.fw_cuts.specs.Rest.{IsRecovered}
use Rattle.fw_store.specs.Device.{Device}
use Rattle.fw_store.specs.Fresh.{fresh_device}
use Rattle.fw_store.specs.Known.{Known}
use Rattle.fw_store.specs.Memory.{capacity_of, device_of, known_of}
use Rattle.fw_store.specs.Setup.{IsSetup}
use Rattle.fw_store.specs.StoreBytes.{device_at}
use Rattle.fw_store.specs.declared.memory.MemoryStore.{MemoryStore}
use Rattle.fw_store.specs.declared.version.HeaderVersion.{HeaderVersion}
use Rattle.fw_image.specs.Fresh.{fresh_meter}
use Rattle.fw_image.specs.Laws.{FreshIsMeter}
use Rattle.fw_image.specs.Meter.{Meter, IsTrusted}
use Rattle.fw_image.specs.State.{State}
use Rattle.fw_image.specs.Stored.{Holds, IsMeterOf, Refused}
use Rattle.fw_image.specs.declared.error.OpenError.{OpenError}
use Rattle.fw_image.specs.declared.error.OpenError.TheVariants as not_opened
use Rattle.fw_stored.specs.Stored.{IsReadFrom}
use Rattle.fw_evidence.specs.Private.{refusal_of}
use Rattle.fw_evidence.specs.Stores.{HoldsMeter, HoldsNone, IsNoMeter}
use Rattle.fw_evidence.specs.declared.error.StoreRefusal.{StoreRefusal}
use Rattle.fw_evidence.specs.declared.error.StoreRefusal.TheVariants as refusals

-- ---- a store that was read

means_bytes : (bytes : List ℕ) (store : MemoryStore) (meter : Meter) → IsReadFrom bytes store → IsMeterOf (capacity_of store) (device_of store) meter
    → IsMeterOf (capacity_of store) (device_at (capacity_of store) bytes) meter
means_bytes bytes store meter read means = subst (λ (d : Device). IsMeterOf (capacity_of store) d meter) read.device means

pub holds : (bytes : List ℕ) (store : MemoryStore) (state : State) → IsReadFrom bytes store → Holds (known_of store) state → HoldsMeter bytes state.meter
holds bytes store state read held = record {
  capacity = capacity_of store;
  is = read.is;
  means = means_bytes bytes store state.meter read (held.means refl);
  trusted = held.trusted refl;
}

no_meter : (bytes : List ℕ) (store : MemoryStore) → IsReadFrom bytes store → ((meter : Meter) → ¬ IsMeterOf (capacity_of store) (device_of store) meter)
    → (meter : Meter) → ¬ IsMeterOf (capacity_of store) (device_at (capacity_of store) bytes) meter
no_meter bytes store read none meter means = none meter (subst (λ (d : Device). IsMeterOf (capacity_of store) d meter) (sym read.device) means)

pub refused : (bytes : List ℕ) (store : MemoryStore) (error : OpenError) (back : Known) → IsReadFrom bytes store → Refused (known_of store) error back → error ≢ not_opened.Fault
    → HoldsNone bytes (refusal_of error)
refused bytes store not_opened.Fault back read is other = absurd (other refl)
refused bytes store not_opened.BadHeader back read is other = (capacity_of store, read.is, no_meter bytes store read (is.reason refl))
refused bytes store not_opened.BadImage back read is other =
    let cause = is.reason refl in (capacity_of store, read.is, (cause.0, means_bytes bytes store cause.0 read cause.1, cause.2))

-- a call of a store fails only if it isn't sound
pub no_fault : (known back : Known) (error : OpenError) → IsTrue known.sound → Refused known error back → error ≢ not_opened.Fault
no_fault known back error sound is fault =
    let faulty : Refused known not_opened.Fault back = subst (λ (e : OpenError). Refused known e back) fault is in
    let bad : false ≡ true = faulty.never sound in
    absurd cc

-- ---- what was cut is taken back

pub none_made : (store undo made : List ℕ) (error : StoreRefusal) → IsRecovered undo store made → HoldsNone made error → IsNoMeter store undo error
none_made store undo made refusals.ForeignUndo recovered none = absurd none
none_made store undo made refusals.BadFile recovered none = (made, recovered, none)
none_made store undo made refusals.BadHeader recovered none = (made, recovered, none)
none_made store undo made refusals.BadImage recovered none = (made, recovered, none)
none_made store undo made refusals.OutOfMemory recovered none = inr (made, recovered, none)

-- ---- a new store

pub holds_new : FreshIsMeter → (version : HeaderVersion) (block_size capacity : ℕ) (factory : List ℕ) (size : ℕ) (device : Device) → IsSetup version block_size capacity factory → size ≡ capacity
    → device ≡ fresh_device version block_size capacity factory → IsMeterOf size device (fresh_meter version block_size capacity factory) × IsTrusted (fresh_meter version block_size capacity factory)
holds_new law version block_size capacity factory size device setup room new = rw (room, new) (law version block_size capacity factory setup)
