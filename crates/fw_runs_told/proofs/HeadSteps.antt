-- What a head end sends, as events of the world.
use Rattle.std.proofs.Common.{◌≡◌, ◌≢◌, ◌++◌, ℕ, List, [], ◌∷◌, map, Some, refl, subst, ◌∙◌}
use Rattle.std.specs.Prelude.{All, AllPairs, Contains}
use Rattle.std.specs.declared.net.socket_addr.SocketAddr.{SocketAddr}
use Rattle.std.proofs.lemmas.List.Elements.{All-cons, All-contains, All-nil, Contains-push}
use Rattle.fw_names.specs.Name.{Campaign, IsRelease, name_of}
use Rattle.fw_client.specs.Ask.{Ask, active_name, activate, block, block_size, blocks, enable, first_missing, info, initiate, status, verify}
use Rattle.fw_client.specs.State.{invoke_byte}
use Rattle.fw_head.specs.Head.{IsOfferedIn}
use Rattle.fw_head.specs.Row.{MaySend}
use Rattle.fw_audit.specs.Log.{Item, came, sent, started, turned}
use Rattle.fw_fleet_audit.specs.Laws.{image_by}
use Rattle.fw_head_audit.specs.Heads.{IsOfferedAt, IsOrderly}
use Rattle.fw_head_audit.specs.Laws.{OfferedInBook}
use Rattle.fw_world.specs.World.{Datagram, Offers, World}
use Rattle.fw_world.specs.Step.{MayAsk, Permits, tick}
use Rattle.fw_runs_told.specs.Fleet.{AsksMeters, Fleet, HeadEnd, IsMeterOf, MeterEnd, books_in, number_of_book}
use Rattle.fw_runs_told.specs.Runs.{to_meter}
use Rattle.fw_runs_told.proofs.Books.{is_kept, offers_image}
use Rattle.fw_runs_told.proofs.Worlds.{Led, led_none, led_one}

may_ask : (offered : Offers) (head : ℕ) (campaign : Campaign) (release : ℕ) (image : List ℕ) → campaign.head ≡ head → IsRelease campaign release → offered campaign ≡ Some image → (asked : Ask)
    → MaySend (name_of campaign release image) image asked → MayAsk offered head asked
may_ask offered head campaign release image own is offers block_size may = tt
may_ask offered head campaign release image own is offers first_missing may = tt
may_ask offered head campaign release image own is offers blocks may = tt
may_ask offered head campaign release image own is offers status may = tt
may_ask offered head campaign release image own is offers info may = tt
may_ask offered head campaign release image own is offers active_name may = tt
may_ask offered head campaign release image own is offers enable may = tt
may_ask offered head campaign release image own is offers (initiate name size) may = record { campaign = campaign; release = release; image = image; own = own; is_release = is; offers = offers; may = may }
may_ask offered head campaign release image own is offers (block number value) may = record { campaign = campaign; release = release; image = image; own = own; is_release = is; offers = offers; may = may }
may_ask offered head campaign release image own is offers verify may = tt
may_ask offered head campaign release image own is offers activate may = tt

-- what a head end sends to this address was sent to the meter there
abbrev pub IsSentOn : Fleet → World → HeadEnd → SocketAddr → List ℕ → Type 0
IsSentOn fleet w head to bytes = (meter : MeterEnd) × Contains fleet.meters meter × ((meter.at ≡ to) × Contains w.sent (to_meter head meter bytes))

-- A head end does an item. Nothing of the world changes, but that more is sent.
pub record Asks (fleet : Fleet) (old : World) (head : HeadEnd) (item : Item) : Type 0 where
  pub new : World
  pub led : Led old new
  pub meters : new.meters ≡ old.meters
  pub activations : new.activations ≡ old.activations
  pub sends : (to : SocketAddr) (bytes : List ℕ) → item ≡ sent to bytes → IsSentOn fleet new head to bytes

module _ (fleet : Fleet) (law : OfferedInBook) (books : AllPairs ◌≢◌ (map number_of_book (books_in fleet))) (old : World)
    (offered : (campaign : Campaign) → old.offered campaign ≡ image_by (books_in fleet) campaign) (head : HeadEnd) (inside : Contains (books_in fleet) head.book) where
  -- the datagram is one that the head end may send
  permits : (meter : MeterEnd) (bytes : List ℕ) → IsOfferedIn head.book bytes → Permits old.offered head.book.head meter.told.meter (to_meter head meter bytes)
  permits meter bytes offer =
      let own : offer.campaign.head ≡ head.book.head = (is_kept head.book offer.campaign offer.offer offer.offered).head in
      let offers : old.offered offer.campaign ≡ Some offer.offer.image =
      offered offer.campaign ∙ offers_image (books_in fleet) head.book offer.campaign offer.offer books inside offer.offered in
      record {
        asked = offer.permitted.asked;
        invoke = invoke_byte offer.permitted.id;
        may = may_ask old.offered head.book.head offer.campaign offer.offer.release offer.offer.image own offer.is_release offers offer.permitted.asked offer.permitted.may;
        carries = offer.permitted.carries;
        link = refl;
      }

  ticks : (to : SocketAddr) (bytes : List ℕ) (meter : MeterEnd) → Contains fleet.meters meter → meter.at ≡ to → IsOfferedIn head.book bytes → Asks fleet old head (sent to bytes)
  ticks to bytes meter there own offer =
      let d : Datagram = to_meter head meter bytes in
      let new : World = record old { sent = old.sent ++ d ∷ [] } in
      let permitted : All (Permits old.offered head.book.head meter.told.meter) (d ∷ []) =
      All-cons (Permits old.offered head.book.head meter.told.meter) d [] (permits meter bytes offer) (All-nil (Permits old.offered head.book.head meter.told.meter)) in
      record {
        new = new;
        led = led_one old new (tick head.book.head meter.told.meter) (d ∷ []) (d ∷ [], permitted, refl) refl refl refl;
        meters = refl;
        activations = refl;
        sends = λ t b e.
            subst (λ (a : SocketAddr). IsSentOn fleet new head a b) (same_to to t bytes b e)
            (subst (λ (l : List ℕ). IsSentOn fleet new head to l) (same_bytes to t bytes b e) (meter, there, (own, Contains-push old.sent d)));
      }
    where
      same_to : (t to : SocketAddr) (b bytes : List ℕ) → sent t b ≡ sent to bytes → t ≡ to
      same_to t to b bytes e = cc

      same_bytes : (t to : SocketAddr) (b bytes : List ℕ) → sent t b ≡ sent to bytes → b ≡ bytes
      same_bytes t to b bytes e = cc

  rests : (item : Item) → ((to : SocketAddr) (bytes : List ℕ) → item ≡ sent to bytes → ⊥) → Asks fleet old head item
  rests item never = record { new = old; led = led_none old; meters = refl; activations = refl; sends = λ to bytes e. absurd (never to bytes e) }

  offers_to : (to : SocketAddr) (bytes : List ℕ) → AsksMeters fleet head → IsOfferedAt head.book head.asked to bytes → Asks fleet old head (sent to bytes)
  offers_to to bytes asks (number, (asked, among, (own, at)), o) =
      let meter : IsMeterOf fleet asked = All-contains (IsMeterOf fleet) head.asked asked asks among in
      ticks to bytes meter.0 meter.1 (meter.2.1 ∙ at) (law head.book head.asked to bytes (number, (asked, among, (own, at)), o))

  pub asks_so : (item : Item) → AsksMeters fleet head → IsOrderly head.book head.asked item → Asks fleet old head item
  asks_so started asks orderly = rests started (λ to bytes e. absurd cc)
  asks_so (came from datagram) asks orderly = rests (came from datagram) (λ to bytes e. absurd cc)
  asks_so (sent to bytes) asks orderly = offers_to to bytes asks orderly
  asks_so turned asks orderly = rests turned (λ to bytes e. absurd cc)
