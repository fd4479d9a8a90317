-- Public vocabulary: what may happen in the world, one event at a time.
use Rattle.std.specs.Prelude.{◌≡◌, ℕ, true, false, IsTrue, ◌⊎◌, List, [], ◌∷◌, ◌++◌, Option, Some, None, slice_get, All}
use Rattle.fw_axdr.specs.Value.{octet_string}
use Rattle.fw_names.specs.Name.{Campaign, Name, IsOpened, IsRelease, SpellsName, name_of}
use Rattle.fw_apdu.specs.Response.{value, get_response}
use Rattle.fw_store.specs.Setup.{IsSetup}
use Rattle.fw_store.specs.declared.version.HeaderVersion.{HeaderVersion}
use Rattle.fw_image.specs.Meter.{Meter, reopened, restarted}
use Rattle.fw_image.specs.Step.{Turn}
use Rattle.fw_image.specs.Fresh.{fresh_meter}
use Rattle.fw_client.specs.Ask.{Ask, initiate, block, request_of, CarriesRequest}
use Rattle.fw_client.specs.Hearing.{CarriesResponse}
use Rattle.fw_head.specs.Row.{MaySend}
use Rattle.fw_meter.specs.Handling.{Handles}
use Rattle.fw_meter.specs.Laws.{Stops}
use Rattle.fw_world.specs.declared.datagram.Direction.{Direction}
use Rattle.fw_world.specs.declared.datagram.Direction.TheVariants.{ToMeter, ToHead}
use Rattle.fw_world.specs.World.{Datagram, Activation, Offers, World, with_offer, with_meter, with_done}

pub data Event : Type 0 where
  -- a campaign offers an image of a release, to these meters
  open_campaign : Campaign → ℕ → List ℕ → List ℕ → Event
  cancel_campaign : Campaign → Event
  -- a head end may send to a meter
  tick : ℕ → ℕ → Event
  -- the datagram of this number comes to its addressee
  deliver : ℕ → Event
  -- and the meter stops after N calls of its store, with this byte in what it was writing, and restarts
  stop : ℕ → ℕ → ℕ → Event
  restart_meter : ℕ → Event
  -- a meter restarts and stops in it after N calls of its store, and is opened again with the header that is there
  stop_restart : ℕ → ℕ → ℕ → Event
  restart_head : ℕ → Event
  -- a meter goes on with what it verifies
  turn : ℕ → Event

-- ---- sending

-- an ask of an image that a campaign of this head end offers, under its name with any release that such a name can have
pub record IsOfOffer (offered : Offers) (head : ℕ) (asked : Ask) : Type 0 where
  pub campaign : Campaign
  pub release : ℕ
  pub image : List ℕ
  pub own : campaign.head ≡ head
  pub is_release : IsRelease campaign release
  pub offers : offered campaign ≡ Some image
  pub may : MaySend (name_of campaign release image) image asked

-- What a head end may ask of any meter at any time. An initiate has the name and the size of such an image, and a block is one of its
-- blocks under some block size. All else is free: a set to true, a read, a verify, or an activate.
abbrev pub MayAsk : Offers → ℕ → Ask → Type 0
MayAsk offered head (initiate name size) = IsOfOffer offered head (initiate name size)
MayAsk offered head (block number bytes) = IsOfOffer offered head (block number bytes)
MayAsk offered head asked = Unit {0}

-- a datagram to a meter that carries such an ask
pub record Permits (offered : Offers) (head meter : ℕ) (d : Datagram) : Type 0 where
  pub asked : Ask
  pub invoke : ℕ
  pub may : MayAsk offered head asked
  pub carries : CarriesRequest d.bytes invoke (request_of asked)
  pub link : d ≡ record { head = head; meter = meter; direction = ToMeter; bytes = d.bytes }

-- what goes back to where a datagram came from
abbrev pub replies : Datagram → Option (List ℕ) → List Datagram
replies d None = []
replies d (Some bytes) = record d { direction = ToHead; bytes = bytes } ∷ []

-- an image that a meter switched to is the one that it runs then
abbrev pub activated : ℕ → Option Name → Meter → List Activation
activated meter None after = []
activated meter (Some name) after = record { meter = meter; name = name; bytes = after.running.bytes } ∷ []

-- ---- deliveries

-- a meter handles a datagram: its reply is sent, and an image that it switched to is noted
pub record Serves (old : World) (d : Datagram) (new : World) : Type 0 where
  pub before : Meter
  pub after : Meter
  pub reply : Option (List ℕ)
  pub name : Option Name
  pub there : old.meters d.meter ≡ Some before
  pub handles : Handles true IsTrue before d.bytes reply name after
  pub new_is : new ≡ record (with_meter old d.meter after) { sent = old.sent ++ replies d reply; activations = old.activations ++ activated d.meter name after }

-- A head end may mark a meter done in one of its campaigns on an answer of that meter to a GET: an octet-string that spells the name of
-- the image that the campaign offers, with some release.
pub record Marks (old : World) (d : Datagram) (new : World) : Type 0 where
  pub campaign : Campaign
  pub release : ℕ
  pub image : List ℕ
  pub invoke : ℕ
  pub bytes : List ℕ
  pub own : campaign.head ≡ d.head
  pub offers : old.offered campaign ≡ Some image
  pub carries : CarriesResponse d.bytes invoke (get_response (value (octet_string bytes)))
  pub spells : SpellsName bytes (name_of campaign release image)
  pub new_is : new ≡ with_done old campaign d.meter

abbrev pub Delivers : Direction → World → Datagram → World → Type 0
Delivers ToMeter old d new = Serves old d new
Delivers ToHead old d new = (new ≡ old) ⊎ Marks old d new

-- ---- stops

-- A meter stops while it handles a datagram, and its reply is lost. What a stop leaves is the meter as it was, or as it was except for a
-- block that was being written, or as it is without the stop. Then it restarts. An image that it switched to is noted.
pub record StopsAt (old : World) (d : Datagram) (new : World) : Type 0 where
  pub before : Meter
  pub after : Meter
  pub name : Option Name
  pub there : old.meters d.meter ≡ Some before
  pub stops : Stops before d.bytes name after
  pub new_is : new ≡ record (with_meter old d.meter (restarted after)) { activations = old.activations ++ activated d.meter name after }

-- ---- the step

abbrev pub WorldStep : World → Event → World → Type 0
WorldStep old (open_campaign campaign release image meters) new =
    IsOpened campaign × (old.offered campaign ≡ None) × (new ≡ with_offer old campaign image)
WorldStep old (cancel_campaign campaign) new = new ≡ old
WorldStep old (tick head meter) new =
    (sends : List Datagram) × All (Permits old.offered head meter) sends × (new ≡ record old { sent = old.sent ++ sends })
WorldStep old (deliver number) new = (d : Datagram) × (slice_get old.sent number ≡ Some d) × Delivers d.direction old d new
WorldStep old (stop number calls torn) new = (d : Datagram) × (slice_get old.sent number ≡ Some d) × (d.direction ≡ ToMeter) × StopsAt old d new
WorldStep old (restart_meter number) new = (meter : Meter) × (old.meters number ≡ Some meter) × (new ≡ with_meter old number (restarted meter))
WorldStep old (stop_restart number calls torn) new =
    (meter : Meter) × (old.meters number ≡ Some meter) × ((new ≡ with_meter old number (restarted meter)) ⊎ (new ≡ with_meter old number (reopened meter)))
WorldStep old (restart_head head) new = new ≡ old
WorldStep old (turn number) new =
    (before : Meter) × (after : Meter) × (old.meters number ≡ Some before) × Turn true before true after × (new ≡ with_meter old number after)

-- ---- runs

-- a world of new meters, in which nothing was offered, sent, switched to or done
pub record IsOpening (w : World) : Type 0 where
  pub offered : (campaign : Campaign) → w.offered campaign ≡ None
  pub sent : w.sent ≡ []
  pub meters : (number : ℕ) (meter : Meter) → w.meters number ≡ Some meter
      → (version : HeaderVersion) × (block_size capacity : ℕ) × (factory : List ℕ) × IsSetup version block_size capacity factory
      × (meter ≡ fresh_meter version block_size capacity factory)
  pub activations : w.activations ≡ []
  pub done : (campaign : Campaign) (meter : ℕ) → w.done campaign meter ≡ false

-- a list of events, each of which makes such a step
abbrev pub RunBy : {W : Type 0} → (W → Event → W → Type 0) → W → List Event → W → Type 0
RunBy step old [] new = new ≡ old
RunBy {W} step old (event ∷ events) new = (next : W) × step old event next × RunBy step next events new

abbrev pub Run : World → List Event → World → Type 0
Run = RunBy WorldStep
