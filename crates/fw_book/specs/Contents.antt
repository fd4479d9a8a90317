-- Public vocabulary: the book of a head end's campaigns, as a value.
use Rattle.std.specs.Prelude.{◌≡◌, ◌≢◌, ℕ, ◌<◌, ◌≤◌, ◌^◌, Bool, true, false, ◌==◌, nat_eq, is_some, List, [], ◌∷◌, length, Option, None, if◌then◌else◌}
use Rattle.std.specs.List.{list_any, AllByRecursion}
use Rattle.std.specs.Map.{lookup, values_of}
use Rattle.std.specs.Option.{option_map, option_and_then}
use Rattle.fw_blocks.specs.Cuts.{max_image}
use Rattle.fw_names.specs.Name.{Campaign, Name, name_of}
use Rattle.fw_book.specs.declared.row.Row.{Row}
use Rattle.fw_book.specs.declared.row.RowState.{RowState}
use Rattle.fw_book.specs.Rows.{state_of, meters_of, repeats, is_live_in}

-- what a campaign offers, and to which meters: an image of a release, which is 0 if the image has none
pub record Offered : Type 0 where
  pub release : ℕ
  pub image : List ℕ
  pub rows : List Row

-- a book: the number of its head end, and its campaigns in opening order, each with its serial number
pub record Contents : Type 0 where
  pub head : ℕ
  pub campaigns : List (ℕ × Offered)

-- the most meters that a campaign can have (own limit)
abbrev pub max_meters : ℕ
max_meters = 256

-- what a campaign offers, if the book has it
abbrev pub offered_in : Contents → Campaign → Option Offered
offered_in book campaign =
    if campaign.head == book.head then lookup (nat_eq campaign.serial) book.campaigns else None

-- the offered images, as a finite map from campaigns to byte strings
abbrev pub image_in : Contents → Campaign → Option (List ℕ)
image_in book campaign = option_map (λ (offer : Offered). offer.image) (offered_in book campaign)

-- the name under which a campaign offers its image, with the release that it has there
abbrev pub name_in : Contents → Campaign → Option Name
name_in book campaign = option_map (λ (offer : Offered). name_of campaign offer.release offer.image) (offered_in book campaign)

-- the state of a meter in a campaign, if the book has the campaign and the campaign the meter
abbrev pub state_in : Contents → Campaign → ℕ → Option RowState
state_in book campaign meter =
    option_and_then (λ (offer : Offered). state_of offer.rows meter) (offered_in book campaign)

-- whether the book has a campaign of this serial number
abbrev pub has_serial : Contents → ℕ → Bool
has_serial book serial = is_some (lookup (nat_eq serial) book.campaigns)

-- whether the meter is live in a campaign
abbrev pub is_busy : List (ℕ × Offered) → ℕ → Bool
is_busy campaigns meter = list_any (λ (offer : Offered). is_live_in offer.rows meter) (values_of campaigns)

-- A campaign that a book can have. Its serial number begins at 1, and its release has four bytes. Its image has 1 to 16,777,216 bytes. It
-- has 1 to 256 meters, each once.
pub record IsEntry (entry : ℕ × Offered) : Type 0 where
  pub serial_begins : 1 ≤ entry.0
  pub serial_fits : entry.0 < 2 ^ 32
  pub release_fits : entry.1.release < 2 ^ 32
  pub image_begins : 1 ≤ length entry.1.image
  pub image_ends : length entry.1.image ≤ max_image
  pub meters_begin : 1 ≤ length entry.1.rows
  pub meters_end : length entry.1.rows ≤ max_meters
  pub meters_fit : AllByRecursion (λ meter. meter < 2 ^ 32) (meters_of entry.1.rows)
  pub meters_once : repeats (meters_of entry.1.rows) ≡ false

-- two campaigns that one book can have: their serial numbers differ, and no meter is live in both
pub record Apart (a b : ℕ × Offered) : Type 0 where
  pub serials : a.0 ≢ b.0
  pub live : (meter : ℕ) → is_live_in a.1.rows meter ≡ true → is_live_in b.1.rows meter ≡ false

-- each campaign and each that was opened after it
abbrev pub AllApart : List (ℕ × Offered) → Type 0
AllApart [] = Unit {0}
AllApart (entry ∷ entries) = AllByRecursion (λ (other : ℕ × Offered). Apart entry other) entries × AllApart entries

-- what every book keeps
pub record IsBook (book : Contents) : Type 0 where
  pub head_begins : 1 ≤ book.head
  pub head_fits : book.head < 2 ^ 32
  pub entries : AllByRecursion (λ (entry : ℕ × Offered). IsEntry entry) book.campaigns
  pub apart : AllApart book.campaigns
