-- Public vocabulary: the laws of books and meters. They speak of definitions alone.
use Rattle.std.specs.Prelude.{◌≡◌, ◌++◌, ℕ, List, ◌∷◌, map, Option, Some, All, AllPairs, Contains}
use Rattle.std.specs.Option.{option_map}
use Rattle.std.specs.declared.net.socket_addr.SocketAddr.{SocketAddr}
use Rattle.fw_names.specs.Name.{Campaign, Name}
use Rattle.fw_image.specs.Meter.{Image, Meter}
use Rattle.fw_book.specs.Contents.{Contents, Offered, name_in, state_in}
use Rattle.fw_book.specs.declared.row.RowState.TheVariants.{Done}
use Rattle.fw_audit.specs.Log.{Item}
use Rattle.fw_audit.specs.Stands.{IsMeterLog}
use Rattle.fw_fleet_audit.specs.Switches.{AreOffered, IsOffered, IsSwitchDeparture, NeverFalls, offer_in}
use Rattle.fw_fleet_audit.specs.Rows.{AreBorneOut, Audited, HasSwitched, IsRowDeparture, audited_of, names_of}
use Rattle.fw_fleet_audit.specs.declared.error.RowDeparture.{RowDeparture}
use Rattle.fw_fleet_audit.specs.declared.error.SwitchDeparture.{SwitchDeparture}

-- ---- a departure, or none

-- Where a switch departs, not all are as they should be.
abbrev pub SwitchDeparts : Type 0
SwitchDeparts = (books : List Contents) (images : List Image) (d : SwitchDeparture) → IsSwitchDeparture books images d → AreOffered books images → ⊥

-- Where a row departs, not all are borne out.
abbrev pub RowDeparts : Type 0
RowDeparts = (book : Contents) (meters : List Audited) (d : RowDeparture) → IsRowDeparture book meters d → AreBorneOut book meters → ⊥

-- ---- what a change does

-- The campaign in its name settles what an image is that a meter may have switched to. So with another byte, another release or another
-- digest it is none.
abbrev pub OneImage : Type 0
OneImage = (books : List Contents) (image other : Image) → IsOffered books image → IsOffered books other → image.name.campaign ≡ other.name.campaign → image ≡ other

-- A switch that is added, wherever that is, must be to an image that is offered, and have no release below one before it. So with any other
-- one they aren't as they should be.
pub record MayStandAmong (books : List Contents) (front : List Image) (image : Image) : Type 0 where
  pub offered : IsOffered books image
  pub risen : All (λ (earlier : Image). NeverFalls earlier image) front

abbrev pub EachMayStand : Type 0
EachMayStand = (books : List Contents) (front back : List Image) (image : Image) → AreOffered books (front ++ image ∷ back) → MayStandAmong books front image

-- A row that is done has its switch. So with that left out, or under another number, it isn't borne out.
abbrev pub DoneHasSwitched : Type 0
DoneHasSwitched =
    (book : Contents) (meters : List Audited) (campaign : Campaign) (meter : ℕ) → AreBorneOut book meters → state_in book campaign meter ≡ Some Done
    → (name : Name) × (name_in book campaign ≡ Some name) × HasSwitched meters meter name

-- ---- the headline

-- What an audit of a meter was given and found: its number, who may ask it, the meter that its store held first, its log, the images that
-- it switched to, and the meter that its store holds last.
pub record Told : Type 0 where
  pub meter : ℕ
  pub heads : List SocketAddr
  pub begin : Meter
  pub log : List Item
  pub images : List Image
  pub end : Meter

abbrev pub audited_in : Told → Audited
audited_in t = audited_of t.meter (names_of t.images)

-- No meter and no book departs.
pub record IsInOrder (books : List Contents) (told : List Told) : Type 0 where
  pub logs : All (λ (t : Told). IsMeterLog t.heads t.begin t.log t.images t.end) told
  pub switches : All (λ (t : Told). AreOffered books t.images) told
  pub rows : All (λ (book : Contents). AreBorneOut book (map audited_in told)) books

-- a meter of this number, by its log, switched to this image
abbrev pub HasActivated : List Told → ℕ → Image → Type 0
HasActivated told meter image =
    (t : Told) × Contains told t × (t.meter ≡ meter) × IsMeterLog t.heads t.begin t.log t.images t.end × Contains t.images image

-- the image that a campaign offers
abbrev pub image_by : List Contents → Campaign → Option (List ℕ)
image_by books campaign = option_map (λ (offer : Offered). offer.image) (offer_in books campaign)

-- The headline, of what the files tell: each image that a meter switched to is, byte by byte, the one that the campaign in its name offers.
-- A meter that is done in a campaign switched to an image under the name of the one that the campaign offers. Along each meter's switches
-- releases never fall, and the image that it runs in the end has none that is lower than theirs.
pub record IsHeadline (books : List Contents) (told : List Told) : Type 0 where
  pub equal : (meter : ℕ) (image : Image) → HasActivated told meter image → image_by books image.name.campaign ≡ Some image.bytes
  pub done : (book : Contents) (campaign : Campaign) (meter : ℕ) → Contains books book → state_in book campaign meter ≡ Some Done
      → (image : Image) × HasActivated told meter image × (name_in book campaign ≡ Some image.name)
  pub risen : All (λ (t : Told). AllPairs NeverFalls t.images) told
  pub running : All (λ (t : Told). All (λ (image : Image). NeverFalls image t.end.running) t.images) told

abbrev pub HeadlineByLooking : Type 0
HeadlineByLooking = (books : List Contents) (told : List Told) → IsInOrder books told → IsHeadline books told
