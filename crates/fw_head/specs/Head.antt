-- Public vocabulary: a head end, its book and the live rows, and what each call makes of it.
use Rattle.std.specs.Prelude.{◌≡◌, ℕ, Bool, true, false, ◌==◌, nat_eq, not, ◌⊎◌, List, [], ◌∷◌, ◌++◌, map, filter, length, Option, Some, None, unwrap_or, if◌then◌else◌}
use Rattle.std.specs.List.{IsDistinct, list_any}
use Rattle.std.specs.Map.{lookup, keys_of}
use Rattle.std.specs.Option.{option_map, option_map_or}
use Rattle.indexmap.specs.IndexMap.{swap_remove_entry}
use Rattle.fw_names.specs.Name.{Name, Campaign, IsRelease, name_of}
use Rattle.fw_client.specs.Claim.{Claim}
use Rattle.fw_client.specs.State.{IsWaiting}
use Rattle.fw_client.specs.Hearing.{IsClaimed}
use Rattle.fw_book.specs.declared.row.RowState.TheVariants as state
use Rattle.fw_book.specs.Rows.{has_live}
use Rattle.fw_book.specs.Contents.{Contents, Offered, offered_in, image_in, name_in, state_in}
use Rattle.fw_book.specs.Changes.{empty_book, opened, cancelled, marked}
use Rattle.fw_book.specs.declared.notes.Reason.{Reason}
use Rattle.fw_head.specs.declared.giving_up.GivenUp.{GivenUp}
use Rattle.fw_head.specs.declared.giving_up.WhyGivenUp.{WhyGivenUp}
use Rattle.fw_head.specs.declared.news.News.{News}
use Rattle.fw_head.specs.declared.news.News.TheVariants as news
use Rattle.fw_head.specs.declared.news.RowNews.{RowNews}
use Rattle.fw_head.specs.declared.news.RowNews.TheVariants.{Nothing, Moved, Done, Failed}
use Rattle.fw_book.specs.declared.phase.Phase.TheVariants as phase
use Rattle.fw_head.specs.Phase.{phase_of, activates, IsLive}
use Rattle.fw_head.specs.Row.{Row, new_row, reopened_row, sends, ticked, RowHears, RowMayWant, IsPermitted, IsFailedBy, given_up}

-- the live rows, each under the number of its meter
abbrev pub Rows : Type 0
Rows = List (ℕ × Row)

pub record Head : Type 0 where
  pub book : Contents
  -- how many blocks are sent at a time
  pub width : ℕ
  pub rows : Rows

-- the live row of a meter, if it has one
abbrev pub row_of : Rows → ℕ → Option Row
row_of rows meter = lookup (nat_eq meter) rows

-- the rows with that of the meter changed
abbrev pub at_meter : ℕ → (Row → Row) → Rows → Rows
at_meter meter change [] = []
at_meter meter change (entry ∷ entries) =
    if meter == entry.0 then (entry.0, change entry.1) ∷ entries else entry ∷ at_meter meter change entries

-- the rows except that of the meter, in whose place the last one comes
abbrev pub without_meter : ℕ → Rows → Rows
without_meter meter rows = swap_remove_entry (nat_eq meter) rows

-- the rows except those of the campaign of this serial number
abbrev pub without_serial : ℕ → Rows → Rows
without_serial serial rows = filter (λ (entry : ℕ × Row). not (entry.1.name.campaign.serial == serial)) rows

-- a new row for each meter
abbrev pub new_rows : Name → ℕ → List ℕ → Rows
new_rows name size meters = map (λ meter. (meter, new_row meter name size)) meters

-- a new row that asks first, for each meter
abbrev pub reopened_rows : Name → ℕ → List ℕ → Rows
reopened_rows name size meters = map (λ meter. (meter, reopened_row meter name size)) meters

-- each row made new
abbrev pub renewed : Rows → Rows
renewed rows = map (λ (entry : ℕ × Row). (entry.0, new_row entry.1.client.meter entry.1.name entry.1.size)) rows

-- each row made one that asks first what its meter has
abbrev pub asking : Rows → Rows
asking rows = map (λ (entry : ℕ × Row). (entry.0, record entry.1 { asks_first = true })) rows

-- a meter's row hears a datagram and goes on, or the meter has none
abbrev pub RowsHear : Rows → ℕ → List ℕ → RowNews → Rows → Type 0
RowsHear old meter datagram told new =
    ((row next : Row) × (row_of old meter ≡ Some row) × RowHears row datagram told next × (new ≡ at_meter meter (λ was. next) old))
    ⊎ ((row_of old meter ≡ None) × (told ≡ Nothing) × (new ≡ old))

-- the meter has a live row, which may take memory for the datagram
abbrev pub RowsMayWant : Rows → ℕ → List ℕ → Type 0
RowsMayWant rows meter datagram = (row : Row) × (row_of rows meter ≡ Some row) × RowMayWant row datagram

-- the meter has a live row of which an ask is outstanding
abbrev pub HasOutstanding : Head → ℕ → Type 0
HasOutstanding head meter = (row : Row) × (row_of head.rows meter ≡ Some row) × IsWaiting row.client

-- whether a meter has a live row whose next tick asks to activate the image
abbrev pub activates_at : Head → ℕ → Bool
activates_at head meter = option_map_or (λ (row : Row). activates row.stage) (row_of head.rows meter) false

-- ---- what each call makes of a head end

abbrev pub new_head : ℕ → ℕ → Head
new_head number width = record { book = empty_book number; width = width; rows = [] }

-- a campaign of this head end
abbrev pub campaign_at : Head → ℕ → Campaign
campaign_at head serial = record { head = head.book.head; serial = serial }

-- an opening adds the campaign to the book, and a new row for each of its meters
abbrev pub opened_head : Head → ℕ → ℕ → List ℕ → List ℕ → Head
opened_head head serial release image meters =
    record head {
      book = opened head.book serial release image meters;
      rows = head.rows ++ new_rows (name_of (campaign_at head serial) release image) (length image) meters;
    }

abbrev pub cancelled_head : Head → ℕ → Head
cancelled_head head serial = record head { book = cancelled head.book serial; rows = without_serial serial head.rows }

-- a restart keeps the book
abbrev pub restarted : Head → Head
restarted head = record head { rows = renewed head.rows }

-- the head end, each row of which asks first what its meter has
abbrev pub asking_first : Head → Head
asking_first head = record head { rows = asking head.rows }

-- the bytes of the image of a row's campaign
abbrev pub image_of : Head → Row → List ℕ
image_of head row = unwrap_or (image_in head.book row.name.campaign) []

-- what a tick sends to a meter: what its live row sends
abbrev pub sends_to : Head → ℕ → List (List ℕ)
sends_to head meter = option_map_or (λ row. sends row (image_of head row) head.width) (row_of head.rows meter) []

abbrev pub ticked_head : Head → ℕ → Head
ticked_head head meter = record head { rows = at_meter meter (λ row. ticked row (image_of head row) head.width) head.rows }

-- what is reported of a row's news
abbrev pub news_of : Campaign → ℕ → RowNews → News
news_of campaign meter Nothing = news.Nothing
news_of campaign meter Moved = news.Moved
news_of campaign meter (Done claim) = news.Done campaign meter
news_of campaign meter (Failed why) = news.Failed campaign meter

-- The head end once the meter's row became this one. A row that ended is marked in the book, and is live no more.
abbrev pub went_on : Head → ℕ → Row → RowNews → Head
went_on head meter row Nothing = head
went_on head meter row Moved = record head { rows = at_meter meter (λ old. row) head.rows }
went_on head meter row (Done claim) = record head { book = marked head.book row.name.campaign.serial meter state.Done; rows = without_meter meter head.rows }
went_on head meter row (Failed why) = record head { book = marked head.book row.name.campaign.serial meter state.Failed; rows = without_meter meter head.rows }

-- The live row of a meter is given up without an answer, and this is told of it: the book has the row as failed, and it is live no more.
pub record GivesUpRow (old : Head) (meter : ℕ) (why : WhyGivenUp) (given : GivenUp) (new : Head) : Type 0 where
  pub row : Row
  pub found : row_of old.rows meter ≡ Some row
  pub given_is : given ≡ given_up row why
  pub new_is : new ≡ went_on old meter row (Failed given.reason)

-- the live row of the sender hears the datagram
pub record HeadTakes (old : Head) (meter : ℕ) (datagram : List ℕ) (told : News) (new : Head) : Type 0 where
  pub row : Row
  pub next : Row
  pub heard : RowNews
  pub found : row_of old.rows meter ≡ Some row
  pub hears : RowHears row datagram heard next
  pub new_is : new ≡ went_on old meter next heard
  pub told_is : told ≡ news_of row.name.campaign meter heard

-- a datagram of a meter without a live row changes nothing
abbrev pub HeadIgnores : Head → ℕ → News → Head → Type 0
HeadIgnores old meter told new = (row_of old.rows meter ≡ None) × (told ≡ news.Nothing) × (new ≡ old)

-- from old, a head end that is given this datagram of a meter reports this, and becomes new
abbrev pub HeadHears : Head → ℕ → List ℕ → News → Head → Type 0
HeadHears old meter datagram told new = HeadTakes old meter datagram told new ⊎ HeadIgnores old meter told new

-- A meter's answer makes it done in a campaign. Its live row is of that campaign and waits for the name of the image that runs. The
-- datagram is the response to that GET, and the name in it is the one under which the campaign offers its image.
pub record IsDoneBy (head : Head) (meter : ℕ) (datagram : List ℕ) (campaign : Campaign) : Type 0 where
  pub row : Row
  pub claim : Claim
  pub found : row_of head.rows meter ≡ Some row
  pub of : row.name.campaign ≡ campaign
  pub waits : phase_of row.stage ≡ phase.Confirm
  pub claimed : IsClaimed row.client datagram claim
  pub named : name_in head.book campaign ≡ Some claim.name

-- A meter's answer ends its live row of this campaign, for this reason.
pub record IsGivenUpBy (head : Head) (meter : ℕ) (datagram : List ℕ) (campaign : Campaign) (why : Reason) : Type 0 where
  pub row : Row
  pub found : row_of head.rows meter ≡ Some row
  pub of : row.name.campaign ≡ campaign
  pub failed : IsFailedBy row datagram why

-- and for some reason
abbrev pub IsGivenUp : Head → ℕ → List ℕ → Campaign → Type 0
IsGivenUp head meter datagram campaign = (why : Reason) × IsGivenUpBy head meter datagram campaign why

-- What is told beside the news of a meter's datagram: the reason for which its row is given up, and none if it isn't.
abbrev pub TellsReason : Head → ℕ → List ℕ → News → Option Reason → Type 0
TellsReason head meter datagram (news.Failed campaign whose) (Some why) = IsGivenUpBy head meter datagram campaign why
TellsReason head meter datagram (news.Failed campaign whose) None = ⊥
TellsReason head meter datagram told reason = reason ≡ None

-- ---- what every head end keeps

-- A row is that of its meter in a campaign of the book. The meter is live there, the row is for the image that the campaign offers, and it
-- hasn't ended.
pub record IsRowOf (book : Contents) (meter : ℕ) (row : Row) : Type 0 where
  pub asks : row.client.meter ≡ meter
  pub live : state_in book row.name.campaign meter ≡ Some state.Live
  pub named : name_in book row.name.campaign ≡ Some row.name
  pub sized : option_map length (image_in book row.name.campaign) ≡ Some row.size
  pub going : IsLive row.stage

-- the rows are those that are live in the book, and a meter has one row at most
pub record AreRowsOf (book : Contents) (rows : Rows) : Type 0 where
  pub of_book : (meter : ℕ) (row : Row) → row_of rows meter ≡ Some row → IsRowOf book meter row
  pub of_rows : (campaign : Campaign) (meter : ℕ) → state_in book campaign meter ≡ Some state.Live
      → (row : Row) × (row_of rows meter ≡ Some row) × (row.name.campaign ≡ campaign)
  pub once : IsDistinct nat_eq (keys_of rows)

abbrev pub IsHead : Head → Type 0
IsHead head = AreRowsOf head.book head.rows

-- A head end begins with this book: each meter that is live in the book has a new row that asks first what the meter has, and no other
-- meter has one.
pub record BeginsWith (book : Contents) (width : ℕ) (head : Head) : Type 0 where
  pub book_is : head.book ≡ book
  pub width_is : head.width ≡ width
  pub live : AreRowsOf book head.rows
  pub new : asking (renewed head.rows) ≡ head.rows

-- whether a campaign of the book has a row that is live
abbrev pub has_live_row : Contents → Bool
has_live_row book = list_any (λ (entry : ℕ × Offered). has_live entry.1.rows) book.campaigns

-- ---- what a head end may send: of an image that its book offers, under its name with the release that it is offered with

pub record IsOfferedIn (book : Contents) (datagram : List ℕ) : Type 0 where
  pub campaign : Campaign
  pub offer : Offered
  pub offered : offered_in book campaign ≡ Some offer
  pub is_release : IsRelease campaign offer.release
  pub permitted : IsPermitted (name_of campaign offer.release offer.image) offer.image datagram
