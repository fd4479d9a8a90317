-- Public vocabulary: the rows of a book, beside what meters switched to.
use Rattle.std.specs.Prelude.{◌≡◌, ◌==◌, ℕ, true, false, List, map, Some, All, Contains, slice_get, take}
use Rattle.std.specs.List.{list_any}
use Rattle.fw_names.specs.Name.{Campaign, Name, name_of}
use Rattle.fw_image.specs.Meter.{Image}
use Rattle.fw_book.specs.Contents.{Contents, Offered}
use Rattle.fw_book.specs.declared.row.Row.{Row}
use Rattle.fw_book.specs.declared.row.RowState.TheVariants.{Done}
use Rattle.fw_fleet_audit.specs.declared.error.RowDeparture.{RowDeparture}
use Rattle.fw_fleet_audit.specs.declared.error.RowRule.{RowRule}
use Rattle.fw_fleet_audit.specs.declared.error.RowRule.TheVariants as lacking

-- a meter that was audited, and the names of the images that it switched to, in order
pub record Audited : Type 0 where
  pub meter : ℕ
  pub names : List Name

abbrev pub audited_of : ℕ → List Name → Audited
audited_of meter names = record { meter = meter; names = names }

abbrev pub names_of : List Image → List Name
names_of images = map (λ (image : Image). image.name) images

-- it is the meter of this number, and switched to an image of this name
abbrev pub HasSwitchedTo : ℕ → Name → Audited → Type 0
HasSwitchedTo meter name a = (a.meter ≡ meter) × Contains a.names name

-- one of these did
abbrev pub HasSwitched : List Audited → ℕ → Name → Type 0
HasSwitched meters meter name = (a : Audited) × Contains meters a × HasSwitchedTo meter name a

abbrev pub campaign_of : ℕ → ℕ → Campaign
campaign_of head serial = record { head = head; serial = serial }

-- the name under which a campaign in the book of this head end offers its image
abbrev pub offered_name : ℕ → ℕ × Offered → Name
offered_name head entry = name_of (campaign_of head entry.0) entry.1.release entry.1.image

-- If a row is done, its meter switched to an image of this name: one of its campaign, that is, and not of another that offers the same bytes.
abbrev pub IsBorneOut : List Audited → Name → Row → Type 0
IsBorneOut meters name row = row.state ≡ Done → HasSwitched meters row.meter name

-- So it is with each row of a campaign,
abbrev pub AreRowsBorneOut : List Audited → ℕ → ℕ × Offered → Type 0
AreRowsBorneOut meters head entry = All (IsBorneOut meters (offered_name head entry)) entry.1.rows

-- and with each campaign of a book.
abbrev pub AreBorneOut : Contents → List Audited → Type 0
AreBorneOut book meters = All (AreRowsBorneOut meters book.head) book.campaigns

-- ---- the first row of which that isn't so

-- What lacks for a meter of this number to have switched to an image of this name.
abbrev pub Lacks : List Audited → ℕ → Name → RowRule → Type 0
Lacks meters meter name lacking.NotAudited = list_any (λ (a : Audited). a.meter == meter) meters ≡ false
Lacks meters meter name lacking.DoneNotActivated = (list_any (λ (a : Audited). a.meter == meter) meters ≡ true) × (HasSwitched meters meter name → ⊥)

-- Of these rows of a campaign the first that isn't borne out is this meter's.
pub record IsFirstLacking (meters : List Audited) (name : Name) (rows : List Row) (meter : ℕ) (rule : RowRule) : Type 0 where
  pub at : ℕ
  pub before : All (IsBorneOut meters name) (take at rows)
  pub row : Row
  pub there : slice_get rows at ≡ Some row
  pub done : row.state ≡ Done
  pub own : row.meter ≡ meter
  pub lacks : Lacks meters meter name rule

-- Of the campaigns of a book the first that has such a row is this one.
pub record IsRowDeparture (book : Contents) (meters : List Audited) (d : RowDeparture) : Type 0 where
  pub at : ℕ
  pub before : All (AreRowsBorneOut meters book.head) (take at book.campaigns)
  pub entry : ℕ × Offered
  pub there : slice_get book.campaigns at ≡ Some entry
  pub own : d.campaign ≡ campaign_of book.head entry.0
  pub first : IsFirstLacking meters (offered_name book.head entry) entry.1.rows d.meter d.rule
