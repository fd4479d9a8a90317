-- Public vocabulary: what holds of every world that events lead to.
use Rattle.std.specs.Prelude.{◌≡◌, ◌⊎◌, ℕ, ◌≤◌, true, List, length, Some, Contains, All, AllPairs}
use Rattle.sha2.specs.Sha256.{sha256}
use Rattle.fw_axdr.specs.Value.{octet_string}
use Rattle.fw_names.specs.Name.{Campaign, Name, IsOpened, IsName, SpellsName, name_of, factory}
use Rattle.fw_store.specs.declared.header.Goal.{Goal}
use Rattle.fw_apdu.specs.Request.{RequestContent}
use Rattle.fw_apdu.specs.Response.{value, get_response}
use Rattle.fw_image.specs.Meter.{Meter, goal_of, IsTrusted}
use Rattle.fw_image.specs.Fits.{CellsFit}
use Rattle.fw_server.specs.Meaning.{meaning_of, initiate}
use Rattle.fw_client.specs.Hearing.{CarriesResponse}
use Rattle.fw_meter.specs.Handling.{Brings}
use Rattle.fw_world.specs.declared.datagram.Direction.TheVariants.{ToHead}
use Rattle.fw_world.specs.World.{Datagram, Activation, Offers, World}

-- an image of this name and size is offered by the campaign in the name
pub record IsOffered (offered : Offers) (name : Name) (size : ℕ) : Type 0 where
  pub image : List ℕ
  pub offers : offered name.campaign ≡ Some image
  pub named : name.digest ≡ sha256 image
  pub sized : size ≡ length image

-- a meter switched to an image under this name
abbrev pub HasActivated : List Activation → ℕ → Name → Type 0
HasActivated activations meter name = (bytes : List ℕ) × Contains activations (record { meter = meter; name = name; bytes = bytes })

-- which names a meter may show before it switched to any image
abbrev pub FirstNames : Type 1
FirstNames = ℕ → Name → Type 0

-- those of no campaign
abbrev pub IsFactoryName : FirstNames
IsFactoryName meter name = name.campaign ≡ factory

-- the one that it was made with
abbrev pub IsFirstName : World → FirstNames
IsFirstName opening number name = (meter : Meter) × (opening.meters number ≡ Some meter) × (name ≡ meter.running.name)

-- a name that a meter may show: one of its first, or that of an image that it switched to
abbrev pub IsOwn : FirstNames → List Activation → ℕ → Name → Type 0
IsOwn IsFirst activations meter name = IsFirst meter name ⊎ HasActivated activations meter name

-- ---- what the types of the parts say of each world

-- The block size is not 0. The name of the image that runs has a spelling, and so has that of a goal, whose release is not below that of
-- the image that runs. Each block that is there has its length.
pub record IsSoundMeter (meter : Meter) : Type 0 where
  pub block_size : 1 ≤ meter.block_size
  pub named : IsName meter.running.name
  pub aimed : (goal : Goal) → goal_of meter.phase ≡ Some goal → IsName goal.name
  pub risen : (goal : Goal) → goal_of meter.phase ≡ Some goal → meter.running.name.release ≤ goal.name.release
  pub cells : (goal : Goal) → goal_of meter.phase ≡ Some goal → CellsFit meter.block_size goal.size meter.cells

pub record IsSound (w : World) : Type 0 where
  pub campaigns : (campaign : Campaign) (image : List ℕ) → w.offered campaign ≡ Some image → IsOpened campaign
  pub meters : (number : ℕ) (meter : Meter) → w.meters number ≡ Some meter → IsSoundMeter meter

-- ---- the headline, in six parts

-- what a datagram initiates has the name and the size of an offered image
abbrev pub InitiatesOffered : Offers → Datagram → Type 0
InitiatesOffered offered d =
    (source invoke size : ℕ) (content : RequestContent) (identifier : List ℕ) → Brings d.bytes source invoke content
    → meaning_of content ≡ initiate identifier size → (name : Name) × SpellsName identifier name × IsOffered offered name size

-- so has each initiate that was ever sent
abbrev pub InitiatesAreOffered : World → Type 0
InitiatesAreOffered w = All (InitiatesOffered w.offered) w.sent

-- an octet-string of 41 or of 45 bytes that a meter answered to a GET spells a name of its own
abbrev pub TellsOwn : FirstNames → List Activation → Datagram → Type 0
TellsOwn IsFirst activations d =
    (invoke : ℕ) (bytes : List ℕ) → d.direction ≡ ToHead → CarriesResponse d.bytes invoke (get_response (value (octet_string bytes)))
    → (length bytes ≡ 41) ⊎ (length bytes ≡ 45) → (name : Name) × SpellsName bytes name × IsOwn IsFirst activations d.meter name

-- the name of the image that a meter runs is its own, and so is each name that it ever reported
pub record NamesAreOwn (IsFirst : FirstNames) (w : World) : Type 0 where
  pub running : (number : ℕ) (meter : Meter) → w.meters number ≡ Some meter → IsOwn IsFirst w.activations number meter.running.name
  pub told : All (TellsOwn IsFirst w.activations) w.sent

-- a goal is the name and the size of an offered image, and the bytes of a verified one have the digest of its name
pub record GoalsAreOffered (w : World) : Type 0 where
  pub goals : (number : ℕ) (meter : Meter) (goal : Goal) → w.meters number ≡ Some meter → goal_of meter.phase ≡ Some goal → IsOffered w.offered goal.name goal.size
  pub trusted : (number : ℕ) (meter : Meter) → w.meters number ≡ Some meter → IsTrusted meter

-- what was switched to has the size of the image that the campaign in its name offers, and its digest
pub record IsSafe (offered : Offers) (a : Activation) : Type 0 where
  pub image : List ℕ
  pub offers : offered a.name.campaign ≡ Some image
  pub sized : length a.bytes ≡ length image
  pub digest : sha256 a.bytes ≡ a.name.digest
  pub named : sha256 image ≡ a.name.digest

-- a meter that is done in a campaign switched to an image under the name of the one that the campaign offers, with some release
pub record IsDoneSafely (w : World) (campaign : Campaign) (meter : ℕ) : Type 0 where
  pub release : ℕ
  pub image : List ℕ
  pub offers : w.offered campaign ≡ Some image
  pub activated : HasActivated w.activations meter (name_of campaign release image)

pub record ActivationsAreSafe (w : World) : Type 0 where
  pub activations : All (IsSafe w.offered) w.activations
  pub done : (campaign : Campaign) (meter : ℕ) → w.done campaign meter ≡ true → IsDoneSafely w campaign meter

-- of two activations of a meter, the later one has no lower release
abbrev pub NeverFalls : Activation → Activation → Type 0
NeverFalls earlier later = earlier.meter ≡ later.meter → earlier.name.release ≤ later.name.release

-- along each meter's activations releases never fall, and the image that it runs has none that is lower than theirs
pub record ReleasesNeverFall (w : World) : Type 0 where
  pub activations : AllPairs NeverFalls w.activations
  pub running : (a : Activation) (meter : Meter) → Contains w.activations a → w.meters a.meter ≡ Some meter → a.name.release ≤ meter.running.name.release

-- no image that was switched to collides with an offered one
abbrev pub NoCollision : World → Type 0
NoCollision w =
    (a : Activation) (campaign : Campaign) (image : List ℕ) → Contains w.activations a → w.offered campaign ≡ Some image
    → sha256 a.bytes ≡ sha256 image → a.bytes ≡ image

-- then each image that was switched to is, byte by byte, the one that the campaign in its name offers
abbrev pub ActivationsAreEqual : World → Type 0
ActivationsAreEqual w = NoCollision w → (a : Activation) → Contains w.activations a → w.offered a.name.campaign ≡ Some a.bytes
