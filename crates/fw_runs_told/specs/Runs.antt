-- Public vocabulary: the run that the logs of a fleet tell.
use Rattle.std.specs.Prelude.{◌≡◌, ◌==◌, ◌↔◌, ℕ, true, List, map, filter, Some, All, Contains}
use Rattle.fw_names.specs.Name.{Campaign}
use Rattle.fw_image.specs.Meter.{Image, Meter, reopened}
use Rattle.fw_book.specs.Contents.{state_in}
use Rattle.fw_book.specs.declared.row.RowState.TheVariants.{Done}
use Rattle.fw_audit.specs.Log.{sent}
use Rattle.fw_fleet_audit.specs.Laws.{image_by}
use Rattle.fw_world.specs.declared.datagram.Direction.TheVariants.{ToHead, ToMeter}
use Rattle.fw_world.specs.World.{Activation, Datagram, World}
use Rattle.fw_world.specs.Step.{Event, IsOpening, Run}
use Rattle.fw_runs_told.specs.Fleet.{Fleet, HeadEnd, IsNumber, MeterEnd, books_in}

-- ---- what a world has of a fleet

abbrev pub to_meter : HeadEnd → MeterEnd → List ℕ → Datagram
to_meter head meter bytes = record { head = head.book.head; meter = meter.told.meter; direction = ToMeter; bytes = bytes }

abbrev pub to_head : HeadEnd → MeterEnd → List ℕ → Datagram
to_head head meter bytes = record { head = head.book.head; meter = meter.told.meter; direction = ToHead; bytes = bytes }

-- each datagram that an end sent to another one, by its log, was sent
pub record AreSent (fleet : Fleet) (w : World) : Type 0 where
  pub by_heads : (head : HeadEnd) (meter : MeterEnd) (bytes : List ℕ) → Contains fleet.heads head → Contains fleet.meters meter
      → Contains head.log (sent meter.at bytes) → Contains w.sent (to_meter head meter bytes)
  pub by_meters : (head : HeadEnd) (meter : MeterEnd) (bytes : List ℕ) → Contains fleet.heads head → Contains fleet.meters meter
      → Contains meter.told.log (sent head.at bytes) → Contains w.sent (to_head head meter bytes)

-- an image that a meter switched to, as a world notes it
abbrev pub switch_to : ℕ → Image → Activation
switch_to meter image = record { meter = meter; name = image.name; bytes = image.bytes }

-- what a meter switched to, in order
abbrev pub switches_of : List Activation → ℕ → List Activation
switches_of activations meter = filter (λ (a : Activation). a.meter == meter) activations

-- The meter of the world is the one whose store was found, once it is opened again; and it switched to just the images that its audit found.
pub record IsMeterIn (w : World) (meter : MeterEnd) : Type 0 where
  pub last : Meter
  pub there : w.meters meter.told.meter ≡ Some last
  pub left : meter.told.end ≡ reopened last
  pub switches : switches_of w.activations meter.told.meter ≡ map (switch_to meter.told.meter) meter.told.images

-- a book has a meter as done in a campaign
abbrev pub IsDoneIn : Fleet → Campaign → ℕ → Type 0
IsDoneIn fleet campaign meter = (head : HeadEnd) × Contains fleet.heads head × (state_in head.book campaign meter ≡ Some Done)

-- The world offers what the books offer, those are done in it that the books have as done, all was sent that the logs have as sent, its
-- meters ended as theirs, and no other meter switched to anything.
pub record IsTold (fleet : Fleet) (w : World) : Type 0 where
  pub offered : (campaign : Campaign) → w.offered campaign ≡ image_by (books_in fleet) campaign
  pub done : (campaign : Campaign) (meter : ℕ) → (w.done campaign meter ≡ true) ↔ IsDoneIn fleet campaign meter
  pub sends : AreSent fleet w
  pub meters : All (IsMeterIn w) fleet.meters
  pub others : (a : Activation) → Contains w.activations a → IsNumber fleet a.meter

-- ---- the run

-- the meter is in a world as it was before its log
abbrev pub Begins : World → MeterEnd → Type 0
Begins w meter = w.meters meter.told.meter ≡ Some meter.told.begin

-- From a world of new meters, which has these and no other, events lead to a world that is told.
pub record IsRunOf (fleet : Fleet) (opening : World) (events : List Event) (w : World) : Type 0 where
  pub opens : IsOpening opening
  pub begins : All (Begins opening) fleet.meters
  pub only : (number : ℕ) (meter : Meter) → opening.meters number ≡ Some meter → IsNumber fleet number
  pub run : Run opening events w
  pub told : IsTold fleet w

abbrev pub HasRun : Fleet → Type 0
HasRun fleet = (opening : World) × (events : List Event) × (w : World) × IsRunOf fleet opening events w
