-- Public vocabulary: what a world can be made with, and the world that it then is.
use Rattle.std.specs.Prelude.{◌≡◌, ℕ, ◌≤◌, Bool, false, if◌then◌else◌, ◌==◌, ◌||◌, List, [], ◌∷◌, map, length, All}
use Rattle.std.specs.List.{list_any}
use Rattle.fw_blocks.specs.Width.{IsWidth}
use Rattle.fw_book.specs.Contents.{max_meters}
use Rattle.fw_store.specs.Setup as store
use Rattle.fw_store.specs.declared.version.HeaderVersion.{HeaderVersion}
use Rattle.fw_store.specs.declared.version.HeaderVersion.TheVariants.{One, Two}
use Rattle.fw_image.specs.Fresh.{fresh_meter}
use Rattle.fw_head.specs.Head.{Head, new_head}
use Rattle.fw_image.specs.Meter.{Meter}
use Rattle.fw_world.specs.declared.setup.HeadSetup.{HeadSetup}
use Rattle.fw_world.specs.declared.setup.MeterSetup.{MeterSetup}
use Rattle.fw_world.specs.declared.setup.Setup.{Setup}
use Rattle.fw_world.specs.State.{State}

-- two of them have one number
abbrev pub repeats : {A : Type 0} → (A → ℕ) → List A → Bool
repeats number [] = false
repeats number (first ∷ others) = list_any (λ other. number other == number first) others || repeats number others

abbrev pub number_of_head : HeadSetup → ℕ
number_of_head head = head.head

abbrev pub number_of_meter : MeterSetup → ℕ
number_of_meter meter = meter.meter

-- a limit (own); a world has as many meters as a campaign can have
abbrev pub max_heads : ℕ
max_heads = 16

-- the head end has a width
abbrev pub HasWidth : HeadSetup → Type 0
HasWidth head = IsWidth head.width

-- the version of the header that the meter's store is made with: an old one has version 1
abbrev pub version_of : MeterSetup → HeaderVersion
version_of meter = if meter.old then One else Two

-- a store can be made for the meter
abbrev pub IsStored : MeterSetup → Type 0
IsStored meter = store.IsSetup (version_of meter) meter.block_size meter.capacity meter.factory.items

-- what a world can be made with
pub record IsSetup (setup : Setup) : Type 0 where
  pub some_heads : 1 ≤ length setup.heads.items
  pub heads_in_range : length setup.heads.items ≤ max_heads
  pub some_meters : 1 ≤ length setup.meters.items
  pub meters_in_range : length setup.meters.items ≤ max_meters
  pub heads_once : repeats number_of_head setup.heads.items ≡ false
  pub meters_once : repeats number_of_meter setup.meters.items ≡ false
  pub widths : All HasWidth setup.heads.items
  pub stored : All IsStored setup.meters.items

-- ---- the world that it then is

abbrev pub head_of : HeadSetup → Head
head_of head = new_head head.head head.width

abbrev pub meter_of : MeterSetup → Meter
meter_of meter = fresh_meter (version_of meter) meter.block_size meter.capacity meter.factory.items

-- each under its number
abbrev pub head_entry : HeadSetup → ℕ × Head
head_entry head = (number_of_head head, head_of head)

abbrev pub meter_entry : MeterSetup → ℕ × Meter
meter_entry meter = (number_of_meter meter, meter_of meter)

-- nothing was opened, sent or switched to
abbrev pub opening_state : Setup → State
opening_state setup = record { heads = map head_entry setup.heads.items; meters = map meter_entry setup.meters.items; sent = []; activations = [] }
