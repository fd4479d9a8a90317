-- Public vocabulary: the laws of what logs tell. They speak of definitions alone.
use Rattle.std.specs.Prelude.{◌≡◌, ◌≤◌, ℕ, List, length, Some, All, AllPairs, Contains}
use Rattle.sha2.specs.Sha256.{sha256}
use Rattle.fw_names.specs.Name.{Campaign, name_of}
use Rattle.fw_image.specs.Meter.{Image}
use Rattle.fw_book.specs.Contents.{Contents}
use Rattle.fw_fleet_audit.specs.Laws.{image_by}
use Rattle.fw_runs_told.specs.Fleet.{Fleet, IsAudited, MeterEnd, books_in}
use Rattle.fw_runs_told.specs.Runs.{HasRun, IsDoneIn}

-- If each log is that of its end, and all of them have one order, they tell of a run of the world.
abbrev pub LogsAreRuns : Type 0
LogsAreRuns = (fleet : Fleet) → IsAudited fleet → HasRun fleet

-- ---- the headline

-- a meter of this number, by its log, switched to this image
abbrev pub HasSwitchedTo : Fleet → ℕ → Image → Type 0
HasSwitchedTo fleet number image = (meter : MeterEnd) × Contains fleet.meters meter × ((meter.told.meter ≡ number) × Contains meter.told.images image)

-- an image has the size of the one that the campaign in its name offers, and its digest
pub record IsSafe (books : List Contents) (image : Image) : Type 0 where
  pub offered : List ℕ
  pub offers : image_by books image.name.campaign ≡ Some offered
  pub sized : length image.bytes ≡ length offered
  pub digest : sha256 image.bytes ≡ sha256 offered

-- a meter that is done in a campaign switched to an image under the name of the one that the campaign offers, with some release
pub record IsDoneSafely (fleet : Fleet) (campaign : Campaign) (meter : ℕ) : Type 0 where
  pub release : ℕ
  pub offered : List ℕ
  pub offers : image_by (books_in fleet) campaign ≡ Some offered
  pub image : Image
  pub named : image.name ≡ name_of campaign release offered
  pub switched : HasSwitchedTo fleet meter image

-- of two images that a meter switched to, the later one has no lower release
abbrev pub NeverFalls : Image → Image → Type 0
NeverFalls earlier later = earlier.name.release ≤ later.name.release

-- The headline, of what the files tell: what a meter switched to has the size and the digest of what the campaign in its name offers, and a
-- meter that a book has as done switched to the image of that campaign. Along each meter's switches releases never fall. No premise is
-- made on the network, the disks or the programs.
pub record IsHeadline (fleet : Fleet) : Type 0 where
  pub safe : (meter : ℕ) (image : Image) → HasSwitchedTo fleet meter image → IsSafe (books_in fleet) image
  pub done : (campaign : Campaign) (meter : ℕ) → IsDoneIn fleet campaign meter → IsDoneSafely fleet campaign meter
  pub risen : All (λ (meter : MeterEnd). AllPairs NeverFalls meter.told.images) fleet.meters

abbrev pub HeadlineOfLogs : Type 0
HeadlineOfLogs = (fleet : Fleet) → IsAudited fleet → IsHeadline fleet
