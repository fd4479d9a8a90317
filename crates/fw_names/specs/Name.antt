-- Names of firmware images: a campaign, a release, and the digest of the image.
use Rattle.std.specs.Prelude.{◌≡◌, ℕ, ◌<◌, ◌≤◌, ◌^◌, ◌⊎◌, ◌==◌, nat_le, Bool, List, ◌∷◌, ◌++◌, length, cond}
use Rattle.std.specs.Int.{w32, to_be_bytes}
use Rattle.sha2.specs.Sha256.{sha256}

-- a head end's number, and the number of one of its campaigns
pub record Campaign : Type 0 where
  pub head : ℕ
  pub serial : ℕ

-- Which campaign offers an image, its release, and the image's SHA-256. Releases are numbers that rise as software goes on; 0 means
-- none.
pub record Name : Type 0 where
  pub campaign : Campaign
  pub release : ℕ
  pub digest : List ℕ

-- the campaign of every image that a meter is made with
abbrev pub factory : Campaign
factory = record { head = 0; serial = 0 }

-- a campaign that a head end opens: both numbers begin at 1
pub record IsOpened (c : Campaign) : Type 0 where
  pub head_begins : 1 ≤ c.head
  pub head_fits : c.head < 2 ^ 32
  pub serial_begins : 1 ≤ c.serial
  pub serial_fits : c.serial < 2 ^ 32

-- a campaign that a name can have
abbrev pub IsCampaign : Campaign → Type 0
IsCampaign c = (c ≡ factory) ⊎ IsOpened c

-- a release that a name of this campaign can have: the factory's images have none
pub record IsRelease (campaign : Campaign) (release : ℕ) : Type 0 where
  pub fits : release < 2 ^ 32
  pub none : campaign ≡ factory → release ≡ 0

-- An image of this release may follow one that runs: none of a release below that. An equal one may, since it stands for no order, as 0
-- does, which is no release.
abbrev pub IsRisen : ℕ → ℕ → Type 0
IsRisen running release = running ≤ release

-- the same as a Boolean
abbrev pub is_risen : ℕ → ℕ → Bool
is_risen running release = nat_le running release

-- a name that has a spelling: its digest has 32 bytes
pub record IsName (name : Name) : Type 0 where
  pub is_campaign : IsCampaign name.campaign
  pub is_release : IsRelease name.campaign name.release
  pub digest_size : length name.digest ≡ 32

-- the two numbers of a campaign in four bytes each, high byte first
abbrev pub campaign_bytes : Campaign → List ℕ
campaign_bytes campaign = to_be_bytes w32 campaign.head ++ to_be_bytes w32 campaign.serial

-- The one spelling of a name. Without a release it has 41 bytes: 01, the campaign, and the digest. With one it has 45: 02, the
-- campaign, the release in four bytes, high byte first, and the digest.
abbrev pub name_bytes : Name → List ℕ
name_bytes name = cond (name.release == 0)
    (1 ∷ (campaign_bytes name.campaign ++ name.digest))
    (2 ∷ (campaign_bytes name.campaign ++ to_be_bytes w32 name.release ++ name.digest))

-- the bytes are the spelling of this name
pub record SpellsName (bytes : List ℕ) (name : Name) : Type 0 where
  pub is_name : IsName name
  pub spelled : bytes ≡ name_bytes name

-- the name under which a campaign offers an image of a release
abbrev pub name_of : Campaign → ℕ → List ℕ → Name
name_of campaign release image = record { campaign = campaign; release = release; digest = sha256 image }

-- the name of an image that a meter is made with
abbrev pub factory_name : List ℕ → Name
factory_name image = name_of factory 0 image
