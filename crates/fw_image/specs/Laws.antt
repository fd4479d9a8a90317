-- Public vocabulary: the laws of meters in stores. They speak of definitions alone.
use Rattle.std.specs.Prelude.{◌≡◌, ◌≢◌, ℕ, ◌≤◌, true, List, length, Some}
use Rattle.fw_blocks.specs.Cuts.{block_count}
use Rattle.fw_store.specs.Device.{Device}
use Rattle.fw_store.specs.Fresh.{fresh_device}
use Rattle.fw_store.specs.Setup.{IsSetup}
use Rattle.fw_store.specs.declared.version.HeaderVersion.{HeaderVersion}
use Rattle.fw_image.specs.Fresh.{fresh_meter}
use Rattle.fw_image.specs.Meter.{Meter, Cells, joined, IsTrusted}
use Rattle.fw_image.specs.Fits.{CellsFit}
use Rattle.fw_image.specs.Step.{Operation, OperationOutcome, refused, Step, Turn}
use Rattle.fw_image.specs.Stored.{IsMeterOf}
use Rattle.fw_image.specs.declared.error.Refusal.TheVariants.{Fault}

-- a device is one meter at most
abbrev pub OneMeter : Type 0
OneMeter = (capacity : ℕ) (d : Device) (a b : Meter) → IsMeterOf capacity d a → IsMeterOf capacity d b → a ≡ b

-- a new store holds a new meter, whose image has the digest of its name
abbrev pub FreshIsMeter : Type 0
FreshIsMeter = (version : HeaderVersion) (block_size capacity : ℕ) (factory : List ℕ) → IsSetup version block_size capacity factory
    → IsMeterOf capacity (fresh_device version block_size capacity factory) (fresh_meter version block_size capacity factory)
    × IsTrusted (fresh_meter version block_size capacity factory)

-- over an honest store, if no call of it failed, a meter and an operation determine what is returned and the meter afterwards
abbrev pub OneStep : Type 0
OneStep = (old new other : Meter) (operation : Operation) (a b : OperationOutcome) → Step true old operation a new → Step true old operation b other
    → a ≢ refused Fault → b ≢ refused Fault → (a ≡ b) × (new ≡ other)

-- and a meter determines what a turn makes of it
abbrev pub OneTurn : Type 0
OneTurn = (old new other : Meter) → Turn true old true new → Turn true old true other → new ≡ other

-- over an honest store, whatever a meter does leaves it its capacity
abbrev pub StepKeepsSize : Type 0
StepKeepsSize = (old new : Meter) (operation : Operation) (outcome : OperationOutcome) → Step true old operation outcome new
    → new.capacity ≡ old.capacity

-- and so does a turn
abbrev pub TurnKeepsSize : Type 0
TurnKeepsSize = (old new : Meter) → Turn true old true new → new.capacity ≡ old.capacity

-- the blocks of an image of `size` bytes, each of its length, have `size` bytes together
abbrev pub JoinedSize : Type 0
JoinedSize = (block_size size : ℕ) (cells : Cells) (bytes : List ℕ) → 1 ≤ block_size → CellsFit block_size size cells
    → joined cells (block_count block_size size) ≡ Some bytes → length bytes ≡ size
