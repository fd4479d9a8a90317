-- Public vocabulary: the images that a meter switched to, beside what books offer.
use Rattle.std.specs.Prelude.{◌≡◌, ◌≢◌, ◌<◌, ◌≤◌, List, [], ◌∷◌, Option, Some, None, All, AllPairs, Contains, slice_get, take}
use Rattle.std.specs.Option.{option_or}
use Rattle.fw_names.specs.Name.{Campaign, name_of}
use Rattle.fw_image.specs.Meter.{Image}
use Rattle.fw_book.specs.Contents.{Contents, Offered, offered_in}
use Rattle.fw_fleet_audit.specs.declared.error.SwitchDeparture.{SwitchDeparture}
use Rattle.fw_fleet_audit.specs.declared.error.SwitchRule.{SwitchRule}
use Rattle.fw_fleet_audit.specs.declared.error.SwitchRule.TheVariants as broken

-- What a campaign offers, in the first of these books that has it.
abbrev pub offer_in : List Contents → Campaign → Option Offered
offer_in [] campaign = None
offer_in (book ∷ books) campaign = option_or (offered_in book campaign) (offer_in books campaign)

-- An image is, byte by byte, what the campaign in its name offers, and its name is the one under which the campaign offers it.
pub record IsOffered (books : List Contents) (image : Image) : Type 0 where
  pub offer : Offered
  pub offers : offer_in books image.name.campaign ≡ Some offer
  pub equal : image.bytes ≡ offer.image
  pub named : image.name ≡ name_of image.name.campaign offer.release offer.image

-- of two images that a meter switched to, the later one has no lower release
abbrev pub NeverFalls : Image → Image → Type 0
NeverFalls earlier later = earlier.name.release ≤ later.name.release

-- Each image that a meter switched to is offered, and releases never fall.
pub record AreOffered (books : List Contents) (images : List Image) : Type 0 where
  pub offered : All (IsOffered books) images
  pub risen : AllPairs NeverFalls images

-- ---- the first switch of which that isn't so

-- An image that a meter switched to after these breaks this rule, and none that stands before it.
abbrev pub Breaks : List Contents → List Image → Image → SwitchRule → Type 0
Breaks books before image broken.NotOffered = offer_in books image.name.campaign ≡ None
Breaks books before image broken.OtherBytes = (offer : Offered) × (offer_in books image.name.campaign ≡ Some offer) × (image.bytes ≢ offer.image)
Breaks books before image broken.OtherName =
    (offer : Offered) × (offer_in books image.name.campaign ≡ Some offer) × (image.bytes ≡ offer.image)
    × (image.name ≢ name_of image.name.campaign offer.release offer.image)
Breaks books before image broken.ReleaseFell =
    IsOffered books image × ((earlier : Image) × Contains before earlier × (image.name.release < earlier.name.release))

-- The switches before this place are as they should be, and the one at this place breaks this rule.
pub record IsSwitchDeparture (books : List Contents) (images : List Image) (d : SwitchDeparture) : Type 0 where
  pub before : AreOffered books (take d.at images)
  pub image : Image
  pub there : slice_get images d.at ≡ Some image
  pub breaks : Breaks books (take d.at images) image d.rule
