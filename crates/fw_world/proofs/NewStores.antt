-- A new store holds the new meter.
use Rattle.std.proofs.Common.{◌≡◌, ℕ, List}
use Rattle.fw_store.specs.Device.{Device}
use Rattle.fw_store.specs.Fresh.{fresh_device}
use Rattle.fw_store.specs.Setup.{IsSetup}
use Rattle.fw_store.specs.declared.version.HeaderVersion.{HeaderVersion}
use Rattle.fw_image.specs.Fresh.{fresh_meter}
use Rattle.fw_image.specs.Laws.{FreshIsMeter}
use Rattle.fw_image.specs.Meter.{IsTrusted}
use Rattle.fw_image.specs.Stored.{IsMeterOf}

-- so does a device that is a new one's
pub holds_new : FreshIsMeter → (version : HeaderVersion) (block_size capacity : ℕ) (factory : List ℕ) (size : ℕ) (device : Device) → IsSetup version block_size capacity factory → size ≡ capacity
    → device ≡ fresh_device version block_size capacity factory → IsMeterOf size device (fresh_meter version block_size capacity factory) × IsTrusted (fresh_meter version block_size capacity factory)
holds_new law version block_size capacity factory size device setup room new = rw (room, new) (law version block_size capacity factory setup)
