-- Public vocabulary: what each call makes of a book, and when it refuses.
use Rattle.std.specs.Prelude.{◌≡◌, ◌≢◌, ◌≤◌, ℕ, Bool, false, ◌==◌, not, nat_lt, is_none, IsSome, List, [], ◌∷◌, ◌++◌, map, length, Option, Some, None, if◌then◌else◌}
use Rattle.std.specs.List.{list_any}
use Rattle.std.specs.Option.{option_map_or}
use Rattle.fw_blocks.specs.Cuts.{max_image}
use Rattle.fw_wrapper.specs.Refusals.{first_applying}
use Rattle.fw_names.specs.Name.{Campaign}
use Rattle.fw_client.specs.Claim.{Claim}
use Rattle.fw_book.specs.declared.error.BookError.{BookError}
use Rattle.fw_book.specs.declared.error.BookError.TheVariants.{ForeignHead, SerialUsed, EmptyImage, ImageTooLong, NoMeters, TooManyMeters, MeterTwice, MeterBusy, NoSuchCampaign, WrongCampaign, NotLive, BadBook, OutOfMemory}
use Rattle.fw_book.specs.declared.row.Row.{Row}
use Rattle.fw_book.specs.declared.row.RowState.{RowState}
use Rattle.fw_book.specs.declared.row.RowState.TheVariants.{Live}
use Rattle.fw_book.specs.Rows.{is_live, has_live, live_row, repeats, with_state, cancelled_rows}
use Rattle.fw_book.specs.Contents.{Offered, Contents, max_meters, offered_in, name_in, state_in, has_serial, is_busy}
use Rattle.fw_book.specs.Format.{IsReadAs}

-- a book of no campaign
abbrev pub empty_book : ℕ → Contents
empty_book head = record { head = head; campaigns = [] }

-- the book with one campaign more, after the others
abbrev pub added : Contents → ℕ → Offered → Contents
added book serial offer = record { head = book.head; campaigns = book.campaigns ++ (serial, offer) ∷ [] }

-- the book after an opening: the campaign's rows are all live
abbrev pub opened : Contents → ℕ → ℕ → List ℕ → List ℕ → Contents
opened book serial release image meters = added book serial (record { release = release; image = image; rows = map live_row meters })

-- the campaigns with the rows of this one changed
abbrev pub at_serial : ℕ → (List Row → List Row) → List (ℕ × Offered) → List (ℕ × Offered)
at_serial serial change [] = []
at_serial serial change (entry ∷ entries) =
    if serial == entry.0
    then (entry.0, record { release = entry.1.release; image = entry.1.image; rows = change entry.1.rows }) ∷ entries
    else entry ∷ at_serial serial change entries

-- the book after a mark: the meter's row in the campaign has this state
abbrev pub marked : Contents → ℕ → ℕ → RowState → Contents
marked book serial meter state =
    record { head = book.head; campaigns = at_serial serial (with_state meter state) book.campaigns }

-- the book after a campaign is cancelled
abbrev pub cancelled : Contents → ℕ → Contents
cancelled book serial = record { head = book.head; campaigns = at_serial serial cancelled_rows book.campaigns }

-- an opening's refusals, each with its test, in the order in which they count
abbrev pub opening_rows : Contents → Campaign → List ℕ → List ℕ → List (Bool × BookError)
opening_rows book campaign image meters =
    (not (campaign.head == book.head), ForeignHead)
    ∷ (has_serial book campaign.serial, SerialUsed)
    ∷ (length image == 0, EmptyImage)
    ∷ (nat_lt max_image (length image), ImageTooLong)
    ∷ (length meters == 0, NoMeters)
    ∷ (nat_lt max_meters (length meters), TooManyMeters)
    ∷ (repeats meters, MeterTwice)
    ∷ (list_any (λ meter. is_busy book.campaigns meter) meters, MeterBusy)
    ∷ []

-- what an opening is refused for: nothing, if the book takes the campaign
abbrev pub opening_refusal : Contents → Campaign → List ℕ → List ℕ → Option BookError
opening_refusal book campaign image meters = first_applying (opening_rows book campaign image meters)

-- a campaign that a book opens, with this image and for these meters
pub record Opens (book : Contents) (campaign : Campaign) (image meters : List ℕ) : Type 0 where
  pub own : campaign.head ≡ book.head
  pub serial_new : has_serial book campaign.serial ≡ false
  pub image_begins : 1 ≤ length image
  pub image_ends : length image ≤ max_image
  pub meters_begin : 1 ≤ length meters
  pub meters_end : length meters ≤ max_meters
  pub meters_once : repeats meters ≡ false
  pub meters_free : list_any (λ meter. is_busy book.campaigns meter) meters ≡ false

-- what cancelling is refused for
abbrev pub cancel_refusal : Contents → Campaign → Option BookError
cancel_refusal book campaign = first_applying (
    (is_none (offered_in book campaign), NoSuchCampaign)
    ∷ (not (option_map_or (λ (offer : Offered). has_live offer.rows) (offered_in book campaign) false), NotLive)
    ∷ [])

-- what marking a meter's row is refused for
abbrev pub mark_refusal : Contents → Campaign → ℕ → Option BookError
mark_refusal book campaign meter = first_applying (
    (is_none (state_in book campaign meter), NoSuchCampaign)
    ∷ (not (option_map_or is_live (state_in book campaign meter) false), NotLive)
    ∷ [])

-- a claim with which a row can be marked done: the campaign has a live row of its meter, and its name is the one under which
-- the campaign offers its image
pub record Confirms (book : Contents) (campaign : Campaign) (claim : Claim) : Type 0 where
  pub live : state_in book campaign claim.meter ≡ Some Live
  pub name : name_in book campaign ≡ Some claim.name

-- what marking done is refused for
abbrev pub DoneRefused : Contents → Campaign → Claim → BookError → Type 0
DoneRefused book campaign claim NoSuchCampaign = state_in book campaign claim.meter ≡ None
DoneRefused book campaign claim WrongCampaign =
    IsSome (state_in book campaign claim.meter) × ¬ (name_in book campaign ≡ Some claim.name)
DoneRefused book campaign claim NotLive =
    IsSome (state_in book campaign claim.meter) × ¬ (state_in book campaign claim.meter ≡ Some Live)
    × (name_in book campaign ≡ Some claim.name)
DoneRefused book campaign claim _ = ⊥

-- the first refusal that applies, or OutOfMemory if none does
abbrev pub IsRefusal : Option BookError → BookError → Type 0
IsRefusal (Some refusal) error = error ≡ refusal
IsRefusal None error = error ≡ OutOfMemory

-- What bytes are refused for: they are read as no book; or memory ran out, and they are read as one that has a campaign, since images
-- and rows alone take memory.
abbrev pub ReadRefused : List ℕ → BookError → Type 0
ReadRefused bytes BadBook = (book : Contents) → ¬ IsReadAs bytes book
ReadRefused bytes OutOfMemory = (book : Contents) × IsReadAs bytes book × (book.campaigns ≢ [])
ReadRefused bytes _ = ⊥
