-- Public vocabulary: the log of a head end, of whatever make. It sends a meter only what its book offers to it, and what its book has as done
-- was claimed. When it asks what isn't said.
use Rattle.std.specs.Prelude.{◌≡◌, ◌≤◌, ◌⊎◌, ℕ, List, Some, All, Contains, length, slice_get, take}
use Rattle.std.specs.declared.net.socket_addr.SocketAddr.{SocketAddr}
use Rattle.fw_axdr.specs.Value.{octet_string}
use Rattle.fw_names.specs.Name.{Campaign, IsRelease, Name, SpellsName, name_of}
use Rattle.fw_apdu.specs.Response.{get_response, value}
use Rattle.fw_client.specs.Hearing.{CarriesResponse}
use Rattle.fw_book.specs.Contents.{Contents, Offered, offered_in, state_in}
use Rattle.fw_book.specs.declared.row.Row.{Row}
use Rattle.fw_book.specs.declared.row.RowState.{RowState}
use Rattle.fw_book.specs.declared.row.RowState.TheVariants.{Done}
use Rattle.fw_head.specs.Row.{IsPermitted}
use Rattle.fw_fleet_audit.specs.Rows.{campaign_of, offered_name}
use Rattle.fw_audit.specs.Log.{Item, came, sent}
use Rattle.fw_head_audit.specs.declared.error.HeadAuditError.{HeadAuditError}
use Rattle.fw_head_audit.specs.declared.error.HeadAuditError.TheVariants as errors
use Rattle.fw_head_audit.specs.declared.error.UnclaimedRow.{UnclaimedRow}
use Rattle.fw_head_audit.specs.declared.meter.AskedMeter.{AskedMeter}

-- the head end asks this meter at this address
abbrev pub IsAsked : List AskedMeter → ℕ → SocketAddr → Type 0
IsAsked meters meter at = (asked : AskedMeter) × Contains meters asked × ((asked.meter ≡ meter) × (asked.at ≡ at))

-- ---- what is sent

-- A campaign of the book that has a row of this meter offers what a datagram asks: of its image, under its name with the release that it is
-- offered with, or what may be asked of any.
pub record IsOfferedTo (book : Contents) (meter : ℕ) (datagram : List ℕ) : Type 0 where
  pub campaign : Campaign
  pub offer : Offered
  pub state : RowState
  pub offered : offered_in book campaign ≡ Some offer
  pub row : state_in book campaign meter ≡ Some state
  pub is_release : IsRelease campaign offer.release
  pub permitted : IsPermitted (name_of campaign offer.release offer.image) offer.image datagram

-- It is offered to a meter that the head end asks at this address.
abbrev pub IsOfferedAt : Contents → List AskedMeter → SocketAddr → List ℕ → Type 0
IsOfferedAt book meters to datagram = (meter : ℕ) × IsAsked meters meter to × IsOfferedTo book meter datagram

-- An item is in order if it is no datagram that was sent, or one that is offered.
abbrev pub IsOrderly : Contents → List AskedMeter → Item → Type 0
IsOrderly book meters (sent to datagram) = IsOfferedAt book meters to datagram
IsOrderly book meters item = Unit {0}

-- ---- what came

-- A datagram claims that its meter runs an image of this name: it is an answer to a GET, an octet-string that spells the name.
pub record Claims (datagram : List ℕ) (name : Name) : Type 0 where
  pub invoke : ℕ
  pub bytes : List ℕ
  pub carries : CarriesResponse datagram invoke (get_response (value (octet_string bytes)))
  pub spells : SpellsName bytes name

-- One that claims so came from an address at which the head end asks this meter.
abbrev pub HasClaimed : List AskedMeter → List Item → ℕ → Name → Type 0
HasClaimed meters log meter name =
    (at : SocketAddr) × IsAsked meters meter at × ((datagram : List ℕ) × Contains log (came at datagram) × Claims datagram name)

-- If a row is done, its meter claimed this name,
abbrev pub IsClaimedRow : List AskedMeter → List Item → Name → Row → Type 0
IsClaimedRow meters log name row = row.state ≡ Done → HasClaimed meters log row.meter name

-- which is the one under which the campaign of the row offers its image.
abbrev pub AreRowsClaimed : Contents → List AskedMeter → List Item → ℕ × Offered → Type 0
AreRowsClaimed book meters log entry = All (IsClaimedRow meters log (offered_name book.head entry)) entry.1.rows

abbrev pub AreClaimed : Contents → List AskedMeter → List Item → Type 0
AreClaimed book meters log = All (AreRowsClaimed book meters log) book.campaigns

-- ---- the log

-- This is the log of a head end with this book, which asks these meters.
pub record IsHeadLog (book : Contents) (meters : List AskedMeter) (log : List Item) : Type 0 where
  pub sends : All (IsOrderly book meters) log
  pub done : AreClaimed book meters log

-- the first datagram that isn't offered
pub record IsFirstNotOffered (book : Contents) (meters : List AskedMeter) (log : List Item) (at : ℕ) : Type 0 where
  pub before : All (IsOrderly book meters) (take at log)
  pub item : Item
  pub there : slice_get log at ≡ Some item
  pub departs : IsOrderly book meters item → ⊥

-- Of these rows of a campaign the first that isn't claimed is this meter's.
pub record IsFirstOfRows (meters : List AskedMeter) (log : List Item) (name : Name) (rows : List Row) (meter : ℕ) : Type 0 where
  pub at : ℕ
  pub before : All (IsClaimedRow meters log name) (take at rows)
  pub row : Row
  pub there : slice_get rows at ≡ Some row
  pub done : row.state ≡ Done
  pub own : row.meter ≡ meter
  pub lacks : HasClaimed meters log meter name → ⊥

-- Of the campaigns of the book the first that has such a row is this one.
pub record IsFirstNotClaimed (book : Contents) (meters : List AskedMeter) (log : List Item) (d : UnclaimedRow) : Type 0 where
  pub at : ℕ
  pub before : All (AreRowsClaimed book meters log) (take at book.campaigns)
  pub entry : ℕ × Offered
  pub there : slice_get book.campaigns at ≡ Some entry
  pub own : d.campaign ≡ campaign_of book.head entry.0
  pub first : IsFirstOfRows meters log (offered_name book.head entry) entry.1.rows d.meter

abbrev pub MayWantMemory : List AskedMeter → List Item → Type 0
MayWantMemory meters log = (1 ≤ length log) ⊎ (1 ≤ length meters)

-- What an audit says of a log that is none. Memory may be wanted if there is an item or a meter.
abbrev pub IsRefused : Contents → List AskedMeter → List Item → HeadAuditError → Type 0
IsRefused book meters log (errors.NotOffered at) = IsFirstNotOffered book meters log at
IsRefused book meters log (errors.NotClaimed row) = All (IsOrderly book meters) log × IsFirstNotClaimed book meters log row
IsRefused book meters log errors.OutOfMemory = MayWantMemory meters log
