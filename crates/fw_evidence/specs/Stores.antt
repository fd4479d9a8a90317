-- Public vocabulary: the meter that the bytes of a store are.
use Rattle.std.specs.Prelude.{◌⊎◌, ℕ, List}
use Rattle.fw_cuts.specs.Rest.{IsRecovered}
use Rattle.fw_store.specs.Beside.{IsUndoFile}
use Rattle.fw_store.specs.StoreBytes.{IsStore, device_at}
use Rattle.fw_image.specs.Meter.{Meter, IsTrusted}
use Rattle.fw_image.specs.Stored.{IsMeterOf}
use Rattle.fw_stored.specs.Stored.{IsTornBy}
use Rattle.fw_evidence.specs.declared.error.StoreRefusal.{StoreRefusal}
use Rattle.fw_evidence.specs.declared.error.StoreRefusal.TheVariants as refusals

-- The bytes are a store with this meter, whose images have the digests of their names.
pub record HoldsMeter (bytes : List ℕ) (meter : Meter) : Type 0 where
  pub capacity : ℕ
  pub is : IsStore bytes capacity
  pub means : IsMeterOf capacity (device_at capacity bytes) meter
  pub trusted : IsTrusted meter

-- Bytes hold no meter for this reason: they are no store, or the header is none that it can have, or an image hasn't the digest
-- of its name. Or they are a store, for which memory was refused.
abbrev pub HoldsNone : List ℕ → StoreRefusal → Type 0
HoldsNone bytes refusals.ForeignUndo = ⊥
HoldsNone bytes refusals.BadFile = (capacity : ℕ) → ¬ IsStore bytes capacity
HoldsNone bytes refusals.BadHeader = (capacity : ℕ) × IsStore bytes capacity × ((meter : Meter) → ¬ IsMeterOf capacity (device_at capacity bytes) meter)
HoldsNone bytes refusals.BadImage =
    (capacity : ℕ) × IsStore bytes capacity × ((meter : Meter) × IsMeterOf capacity (device_at capacity bytes) meter × ¬ IsTrusted meter)
HoldsNone bytes refusals.OutOfMemory = (capacity : ℕ) × IsStore bytes capacity

-- A store with these bytes, and with those of its undo file beside it, holds this meter once what was cut is taken back.
pub record IsAtRest (store undo : List ℕ) (meter : Meter) : Type 0 where
  pub made : List ℕ
  pub recovered : IsRecovered undo store made
  pub holds : HoldsMeter made meter

-- Or it holds none: the bytes beside it are no undo file's, or what comes of both holds none. Memory may also be refused for taking back what was
-- cut.
abbrev pub IsNoMeter : List ℕ → List ℕ → StoreRefusal → Type 0
IsNoMeter store undo refusals.ForeignUndo = ¬ IsUndoFile undo
IsNoMeter store undo refusals.OutOfMemory =
    IsTornBy undo store ⊎ ((made : List ℕ) × IsRecovered undo store made × HoldsNone made refusals.OutOfMemory)
IsNoMeter store undo refusal = (made : List ℕ) × IsRecovered undo store made × HoldsNone made refusal
