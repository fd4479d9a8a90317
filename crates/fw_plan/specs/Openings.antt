-- Public vocabulary: which meters of a list lack a row, the campaigns that are opened for them, and which rows no list has.
use Rattle.std.specs.Prelude.{◌≡◌, ◌⊎◌, ℕ, ◌+◌, ◌-◌, ◌/◌, ◌<◌, ◌≤◌, ◌^◌, Bool, true, false, not, ◌&&◌, ◌==◌, nat_le, List, [], ◌∷◌, map, filter, length, bytes_eq, All}
use Rattle.std.specs.List.{flat_map, list_any}
use Rattle.fw_book.specs.declared.row.Row.{Row}
use Rattle.fw_book.specs.Contents.{Contents, Offered, has_serial, max_meters}
use Rattle.fw_book.specs.Rows.{is_live}
use Rattle.fw_plan.specs.declared.absent.UnlistedRow.{UnlistedRow}
use Rattle.fw_plan.specs.declared.error.PlanError.{PlanError}
use Rattle.fw_plan.specs.declared.error.PlanError.TheVariants.{NoSerial, OutOfMemory}
use Rattle.fw_plan.specs.declared.part.Part.{Part}

-- whether a campaign has this serial number or a later one, and offers this image with this release
abbrev pub is_of : ℕ → ℕ → List ℕ → ℕ → Offered → Bool
is_of serial release image number offer =
    nat_le serial number && (offer.release == release) && bytes_eq offer.image image

-- whether one of these rows is the meter's
abbrev pub has_meter : List Row → ℕ → Bool
has_meter rows meter = list_any (λ (row : Row). row.meter == meter) rows

-- whether the meter has a row in such a campaign among these
abbrev pub has_row_in : List (ℕ × Offered) → ℕ → ℕ → List ℕ → ℕ → Bool
has_row_in campaigns serial release image meter =
    list_any (λ (entry : ℕ × Offered).
    is_of serial release image entry.0 entry.1 && has_meter entry.1.rows meter) campaigns

-- whether the meter has a row in such a campaign of a book
abbrev pub has_row : Contents → ℕ → ℕ → List ℕ → ℕ → Bool
has_row book serial release image meter = has_row_in book.campaigns serial release image meter

-- the meters of a list that have none, in its order
abbrev pub lacking : Contents → ℕ → ℕ → List ℕ → List ℕ → List ℕ
lacking book serial release image meters = filter (λ meter. not (has_row book serial release image meter)) meters

-- the first number from one on, of which the book has no campaign
pub record IsNextFree (book : Contents) (serial free : ℕ) : Type 0 where
  pub begins : serial ≤ free
  pub fits : free < 2 ^ 32
  pub free_there : has_serial book free ≡ false
  pub first : (other : ℕ) → serial ≤ other → other < free → has_serial book other ≡ true

-- there is no such number
abbrev pub NoneFree : Contents → ℕ → Type 0
NoneFree book serial = (other : ℕ) → serial ≤ other → other < 2 ^ 32 → has_serial book other ≡ true

-- these are the next free numbers from one on, in order: none is passed over
abbrev pub AreNextFree : Contents → ℕ → List ℕ → Type 0
AreNextFree book serial [] = Unit {0}
AreNextFree book serial (free ∷ others) = IsNextFree book serial free × AreNextFree book (free + 1) others

-- the number behind the last of them
abbrev pub behind : ℕ → List ℕ → ℕ
behind serial [] = serial
behind serial (free ∷ others) = behind (free + 1) others

-- how many campaigns N meters need
abbrev pub campaigns_for : ℕ → ℕ
campaigns_for count = (count + (max_meters - 1)) / max_meters

-- a campaign has 1 to 256 meters
abbrev pub HasMeters : Part → Type 0
HasMeters part = (1 ≤ length part.meters.items) × (length part.meters.items ≤ max_meters)

-- The campaigns for these meters. They have the next free serial numbers from this one on. Each has 1 to 256 meters, and together they have all of
-- them in their order. There are as few as can be.
pub record AreParts (book : Contents) (serial : ℕ) (meters : List ℕ) (parts : List Part) : Type 0 where
  pub serials : AreNextFree book serial (map (λ (part : Part). part.serial) parts)
  pub sizes : All HasMeters parts
  pub joined : flat_map (λ (part : Part). part.meters.items) parts ≡ meters
  pub fewest : length parts ≡ campaigns_for (length meters)

-- fewer numbers are free from this one on than these meters need
pub record LacksSerials (book : Contents) (serial : ℕ) (meters : List ℕ) : Type 0 where
  pub serials : List ℕ
  pub are_free : AreNextFree book serial serials
  pub all : NoneFree book (behind serial serials)
  pub few : length serials < campaigns_for (length meters)

-- Why there are no campaigns for these meters: the first serial number is 0, or too few are free; or memory ran out.
abbrev pub PartsRefused : Contents → ℕ → List ℕ → PlanError → Type 0
PartsRefused book serial meters NoSerial = (serial ≡ 0) ⊎ LacksSerials book serial meters
PartsRefused book serial meters OutOfMemory = 1 ≤ serial

-- the live rows of a campaign whose meter isn't listed
abbrev pub unlisted_rows : (ℕ → Bool) → ℕ → List Row → List UnlistedRow
unlisted_rows is_listed serial rows =
    map (λ (row : Row). record { serial = serial; meter = row.meter })
    (filter (λ (row : Row). is_live row.state && not (is_listed row.meter)) rows)

-- those of these campaigns, in their order
abbrev pub unlisted_in : (ℕ → Bool) → List (ℕ × Offered) → List UnlistedRow
unlisted_in is_listed campaigns = flat_map (λ (entry : ℕ × Offered). unlisted_rows is_listed entry.0 entry.1.rows) campaigns

-- the live rows of a book whose meter isn't in the list
abbrev pub unlisted : List ℕ → Contents → List UnlistedRow
unlisted meters book = unlisted_in (λ meter. list_any (λ other. other == meter) meters) book.campaigns
