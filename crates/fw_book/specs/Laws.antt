-- Public vocabulary: the laws of a book.
use Rattle.std.specs.Prelude.{◌≡◌, ◌≢◌, ◌↔◌, ℕ, ◌==◌, false, List, Option, Some, None, if◌then◌else◌}
use Rattle.std.specs.List.{list_any}
use Rattle.std.specs.Option.{option_map}
use Rattle.fw_names.specs.Name.{Campaign}
use Rattle.fw_book.specs.declared.row.RowState.{RowState}
use Rattle.fw_book.specs.declared.row.RowState.TheVariants.{Live, Cancelled}
use Rattle.fw_book.specs.Rows.{is_live}
use Rattle.fw_book.specs.Contents.{Contents, image_in, state_in, has_serial}
use Rattle.fw_book.specs.Changes.{opened, marked, cancelled, opening_refusal, Opens}
use Rattle.fw_book.specs.Format.{SpellsBook, IsReadAs}

-- a byte string spells at most one book
abbrev pub OneBook : Type 0
OneBook = (bytes : List ℕ) (a b : Contents) → SpellsBook bytes a → SpellsBook bytes b → a ≡ b

-- a byte string is read as at most one book
abbrev pub OneReading : Type 0
OneReading = (bytes : List ℕ) (a b : Contents) → IsReadAs bytes a → IsReadAs bytes b → a ≡ b

-- what a campaign offers it offers after each call; a mark and a cancelling leave the offered images as they are
pub record Stays (book : Contents) (campaign : Campaign) : Type 0 where
  pub at_opening : (serial release : ℕ) (image other meters : List ℕ) → image_in book campaign ≡ Some image → image_in (opened book serial release other meters) campaign ≡ Some image
  pub at_mark : (serial meter : ℕ) (state : RowState) → image_in (marked book serial meter state) campaign ≡ image_in book campaign
  pub at_cancelling : (serial : ℕ) → image_in (cancelled book serial) campaign ≡ image_in book campaign

-- an image is never changed or removed
abbrev pub ImagesStay : Type 0
ImagesStay = (book : Contents) (campaign : Campaign) → Stays book campaign

-- the offered images with one pair more
pub record AddsOne (before after : Contents) (campaign : Campaign) (image : List ℕ) : Type 0 where
  pub own : image_in after campaign ≡ Some image
  pub others : (other : Campaign) → other ≢ campaign → image_in after other ≡ image_in before other

-- an opening adds the image under its campaign, where the serial number is new, and nothing else
abbrev pub OpeningOffers : Type 0
OpeningOffers = (book : Contents) (campaign : Campaign) (release : ℕ) (image meters : List ℕ) → campaign.head ≡ book.head → has_serial book campaign.serial ≡ false → AddsOne book (opened book campaign.serial release image meters) campaign image

-- ---- states

-- the states of meters in a campaign that is opened for these: they are live
abbrev pub opening_state : List ℕ → ℕ → Option RowState
opening_state meters meter = if list_any (λ other. other == meter) meters then Some Live else None

-- those after a mark of one meter: it has this state, if it has one at all
abbrev pub marked_state : Contents → Campaign → ℕ → RowState → ℕ → Option RowState
marked_state book campaign marked state meter =
    if meter == marked then option_map (λ was. state) (state_in book campaign meter) else state_in book campaign meter

-- those after cancelling: who was live is cancelled
abbrev pub cancelled_state : Contents → Campaign → ℕ → Option RowState
cancelled_state book campaign meter = option_map (λ was. if is_live was then Cancelled else was) (state_in book campaign meter)

-- these are the states in this campaign afterwards, and every other campaign has those that it had
pub record StatesGoOn (before after : Contents) (campaign : Campaign) (states : ℕ → Option RowState) : Type 0 where
  pub own : (meter : ℕ) → state_in after campaign meter ≡ states meter
  pub others : (other : Campaign) (meter : ℕ) → other ≢ campaign → state_in after other meter ≡ state_in before other meter

-- what each call makes of the states: an opening adds live rows alone, a mark changes one row, and cancelling turns live rows alone
pub record StatesFollow (book : Contents) (campaign : Campaign) : Type 0 where
  pub at_opening : (release : ℕ) (image meters : List ℕ) → has_serial book campaign.serial ≡ false → StatesGoOn book (opened book campaign.serial release image meters) campaign (opening_state meters)
  pub at_mark : (meter : ℕ) (state : RowState) → StatesGoOn book (marked book campaign.serial meter state) campaign (marked_state book campaign meter state)
  pub at_cancelling : StatesGoOn book (cancelled book campaign.serial) campaign (cancelled_state book campaign)

-- no state changes except by these calls
abbrev pub StatesFollowCalls : Type 0
StatesFollowCalls = (book : Contents) (campaign : Campaign) → campaign.head ≡ book.head → StatesFollow book campaign

-- ---- openings

-- nothing refuses an opening exactly if the book opens the campaign
abbrev pub AdmittedOpens : Type 0
AdmittedOpens = (book : Contents) (campaign : Campaign) (image meters : List ℕ) → (opening_refusal book campaign image meters ≡ None) ↔ Opens book campaign image meters
