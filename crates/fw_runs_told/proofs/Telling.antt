-- The logs of a fleet tell of a run.
use Rattle.std.proofs.Common.{◌≡◌, ◌++◌, ◌↔◌, ℕ, Bool, true, false, List, [], ◌∷◌, map, Some, None, slice_get, slice_index_or, inl, inr, refl, sym, ap, subst, ◌∙◌, ⊎_elim, append-nil}
use Rattle.std.specs.Prelude.{Contains}
use Rattle.std.specs.declared.net.socket_addr.SocketAddr.{SocketAddr}
use Rattle.std.proofs.lemmas.Bool.{false≢true}
use Rattle.std.proofs.lemmas.List.Elements.{All-contains}
use Rattle.fw_names.specs.Name.{Campaign, IsOpened, name_of}
use Rattle.fw_image.specs.Meter.{Image, Meter, reopened}
use Rattle.fw_book.specs.Contents.{IsBook}
use Rattle.fw_audit.specs.Log.{Item, came, sent}
use Rattle.fw_audit.specs.Stands.{Leads, ended, left_by}
use Rattle.fw_fleet_audit.specs.Laws.{image_by}
use Rattle.fw_head_audit.specs.Heads.{Claims, HasClaimed, IsAsked}
use Rattle.fw_head_audit.specs.Laws.{OfferedInBook}
use Rattle.fw_order.specs.Order.{HasSent, Step, address_of, items_of}
use Rattle.fw_world.specs.World.{Offers, World}
use Rattle.fw_world.specs.Step.{Run}
use Rattle.fw_runs_told.specs.Fleet.{Fleet, HeadEnd, IsAudited, IsHeadSound, IsMeterOf, IsMeterSound, IsNew, MeterEnd, book_of_head, books_in, ends_in}
use Rattle.fw_runs_told.specs.Laws.{LogsAreRuns}
use Rattle.fw_runs_told.specs.Runs.{IsDoneIn, IsMeterIn, IsTold, switch_to, to_head}
use Rattle.fw_runs_told.proofs.Along.{ComesTo, IsCome, along}
use Rattle.fw_runs_told.proofs.Beginning.{Opens, begins, only_at, opening_of, opens, opens_all, with_offers}
use Rattle.fw_runs_told.proofs.Books.{campaigns_in, find_offer, is_opened, offered_there, offers_image}
use Rattle.fw_runs_told.proofs.Ends.{head_address, head_log, meter_address, meter_is_end, meter_log, place}
use Rattle.fw_runs_told.proofs.Lists.{cases_Option, got_in, in_got, in_map, map_in, none_in, read_at}
use Rattle.fw_runs_told.proofs.Marking.{Marks, MayMark, answer_of, mark_all, with_marks}
use Rattle.fw_runs_told.proofs.MeterSteps.{Stands, left_is}
use Rattle.fw_runs_told.proofs.Orders.{IsFound, find_step, none_sent, sent_more}
use Rattle.fw_runs_told.proofs.Rows.{IsDoneRow, are_done, done_among, done_claimed, done_row}
use Rattle.fw_runs_told.proofs.Worlds.{run_append}

-- a new meter verifies nothing
new_rests : (meter : Meter) → IsNew meter → meter ≡ reopened meter
new_rests meter h = subst (λ (m : Meter). m ≡ reopened m) (sym h.5) refl

same_answer : (head other meter number : ℕ) (bytes : List ℕ) → head ≡ other → meter ≡ number → answer_of head meter bytes ≡ answer_of other number bytes
same_answer head other meter number bytes same also =
    ap (λ (n : ℕ). answer_of n meter bytes) same ∙ ap (λ (n : ℕ). answer_of other n bytes) also

module _ (law : OfferedInBook) (fleet : Fleet) (is : IsAudited fleet) where
  abbrev order : List Step
  order = is.order.0

  abbrev all : Offers
  all = image_by (books_in fleet)

  -- ---- all campaigns are opened

  proper : (campaign : Campaign) (image : List ℕ) → image_by (books_in fleet) campaign ≡ Some image → IsOpened campaign
  proper campaign image e =
      let o = find_offer (books_in fleet) campaign image e in
      let of = in_map book_of_head fleet.heads o.book o.inside in
      let sound : IsHeadSound fleet of.0 = All-contains (IsHeadSound fleet) fleet.heads of.0 is.heads of.1 in
      is_opened o.book campaign o.offer (subst IsBook of.2 sound.book) o.offered

  opened : Opens all (opening_of fleet) (campaigns_in (books_in fleet))
  opened = opens_all all proper (campaigns_in (books_in fleet)) (opening_of fleet) (λ campaign. inl refl)

  abbrev first : World
  first = with_offers (opening_of fleet) opened.offered

  all_offered : (campaign : Campaign) → opened.offered campaign ≡ image_by (books_in fleet) campaign
  all_offered campaign =
      ⊎_elim
      (λ (never : image_by (books_in fleet) campaign ≡ None).
      ⊎_elim (λ (none : opened.offered campaign ≡ None). none ∙ sym never) (λ (there : opened.offered campaign ≡ image_by (books_in fleet) campaign). there)
      (opened.part campaign))
      (λ (h : (image : List ℕ) × (image_by (books_in fleet) campaign ≡ Some image)). opened.has campaign (offered_there (books_in fleet) campaign h.0 h.1))
      (cases_Option (image_by (books_in fleet) campaign))

  -- ---- the logs

  first_stands : (number : ℕ) (meter : MeterEnd) → slice_get fleet.meters number ≡ Some meter → IsMeterSound fleet meter → Stands fleet first meter (items_of order number)
  first_stands number meter there sound = (
    ended meter.told.begin,
    record {
      now = meter.told.begin;
      there = begins fleet number meter is.numbers there;
      holds = new_rests meter.told.begin sound.begins;
      owed = tt;
      had = [];
      noted = refl;
      later = meter.told.images;
      images = refl;
      last = sound.log.stand;
      leads = subst (λ (l : List Item). Leads meter.told.heads (ended meter.told.begin) l meter.told.images sound.log.stand)
          (sym (is.order.1 number ∙ meter_log fleet number meter there)) sound.log.leads;
      left = sound.log.left;
    },
  )

  sound_at : (number : ℕ) (meter : MeterEnd) → slice_get fleet.meters number ≡ Some meter → IsMeterSound fleet meter
  sound_at number meter there = All-contains (IsMeterSound fleet) fleet.meters meter is.meters (got_in fleet.meters number meter there)

  first_come : IsCome fleet [] order first
  first_come = record {
    offered = all_offered;
    knows = record {
      by_heads = λ head meter bytes of_heads of_meters h. absurd (none_sent (ends_in fleet) head.at meter.at bytes h);
      by_meters = λ head meter bytes of_heads of_meters h. absurd (none_sent (ends_in fleet) meter.at head.at bytes h);
    };
    stands = λ number meter there. first_stands number meter there (sound_at number meter there);
    others = λ a c. absurd (none_in a c);
  }

  comes : ComesTo fleet order first
  comes = along fleet law is order is.order.1 is.order.2 order [] first refl first_come

  abbrev second : World
  second = comes.new

  -- ---- what was sent

  head_sent : (head : HeadEnd) (to : SocketAddr) (bytes : List ℕ) → Contains fleet.heads head → Contains head.log (sent to bytes) → HasSent (ends_in fleet) order head.at to bytes
  head_sent head to bytes inside c =
      let at = in_got fleet.heads head inside in (
        place fleet at.0,
        head_address fleet at.0 head at.1,
        subst (λ (l : List Item). Contains l (sent to bytes)) (sym (is.order.1 (place fleet at.0) ∙ head_log fleet at.0 head at.1)) c,
      )

  meter_sent : (meter : MeterEnd) (to : SocketAddr) (bytes : List ℕ) → Contains fleet.meters meter → Contains meter.told.log (sent to bytes) → HasSent (ends_in fleet) order meter.at to bytes
  meter_sent meter to bytes inside c =
      let at = in_got fleet.meters meter inside in (
        at.0,
        meter_address fleet at.0 meter at.1,
        subst (λ (l : List Item). Contains l (sent to bytes)) (sym (is.order.1 at.0 ∙ meter_log fleet at.0 meter at.1)) c,
      )

  -- what came to a head end from the address of a meter was sent by it
  was_sent : (head : HeadEnd) (meter : MeterEnd) (from : SocketAddr) (bytes : List ℕ) → Contains fleet.heads head → Contains fleet.meters meter → meter.at ≡ from
      → Contains head.log (came from bytes) → HasSent (ends_in fleet) order meter.at head.at bytes
  was_sent head meter from bytes of_heads of_meters own c =
      let at = in_got fleet.heads head of_heads in
      let there : Contains (items_of order (place fleet at.0)) (came from bytes) =
      subst (λ (l : List Item). Contains l (came from bytes)) (sym (is.order.1 (place fleet at.0) ∙ head_log fleet at.0 head at.1)) c in
      let found : IsFound order (place fleet at.0) (came from bytes) = find_step order (place fleet at.0) (came from bytes) there in
      let item : found.step.item ≡ came meter.at bytes = found.is ∙ ap (λ (a : SocketAddr). came a bytes) (sym own) in
      let early : HasSent (ends_in fleet) found.before meter.at head.at bytes =
      is.order.2 found.before found.after found.step found.split meter.at head.at bytes item (ap (address_of (ends_in fleet)) found.own ∙ head_address fleet at.0 head at.1)
      (meter_is_end fleet meter of_meters) in
      subst (λ (o : List Step). HasSent (ends_in fleet) o meter.at head.at bytes) (sym found.split)
      (sent_more (ends_in fleet) meter.at head.at bytes found.before (found.step ∷ found.after) early)

  -- ---- the done rows are marked

  may_mark_by : (head : HeadEnd) (campaign : Campaign) (meter : ℕ) → Contains fleet.heads head → (sound : IsHeadSound fleet head) → (d : IsDoneRow head.book campaign meter) → (from : SocketAddr) → IsAsked head.asked meter from
      → (datagram : List ℕ) → Contains head.log (came from datagram) → Claims datagram (name_of campaign d.offer.release d.offer.image) → MayMark second.offered second.sent campaign meter
  may_mark_by head campaign meter of_heads sound d from (asked, among, (own, at)) datagram came_there claims =
      let of : IsMeterOf fleet asked = All-contains (IsMeterOf fleet) head.asked asked sound.asks among in
      let answered : HasSent (ends_in fleet) order of.0.at head.at datagram = was_sent head of.0 from datagram of_heads of.1 (of.2.1 ∙ at) came_there in
      let place_of = in_got second.sent (to_head head of.0 datagram) (comes.come.knows.by_meters head of.0 datagram of_heads of.1 answered) in
      let same : to_head head of.0 datagram ≡ answer_of campaign.head meter datagram = same_answer head.book.head campaign.head of.0.told.meter meter datagram (sym d.kept.head) (of.2.0 ∙ own) in
      record {
        datagram = datagram;
        number = place_of.0;
        there = place_of.1 ∙ ap Some same;
        release = d.offer.release;
        image = d.offer.image;
        offers = comes.come.offered campaign ∙ offers_image (books_in fleet) head.book campaign d.offer is.books (map_in book_of_head fleet.heads head of_heads) d.offered;
        invoke = claims.invoke;
        bytes = claims.bytes;
        carries = claims.carries;
        spells = claims.spells;
      }

  may_mark_in : (campaign : Campaign) (meter : ℕ) → IsDoneIn fleet campaign meter → MayMark second.offered second.sent campaign meter
  may_mark_in campaign meter (head, inside, e) =
      let sound : IsHeadSound fleet head = All-contains (IsHeadSound fleet) fleet.heads head is.heads inside in
      let d : IsDoneRow head.book campaign meter = done_row head.book campaign meter e in
      let claimed : HasClaimed head.asked head.log meter (name_of campaign d.offer.release d.offer.image) = done_claimed head.book head.asked head.log campaign meter d sound.log.done in
      may_mark_by head campaign meter inside sound d claimed.0 claimed.1 claimed.2.0 claimed.2.1 claimed.2.2

  marks : Marks second (done_among fleet.heads)
  marks = mark_all (done_among fleet.heads) second (λ campaign meter c. may_mark_in campaign meter ((are_done fleet campaign meter).0 c))

  abbrev third : World
  third = with_marks second marks.done

  none_done : (campaign : Campaign) (meter : ℕ) → second.done campaign meter ≡ true → ⊥
  none_done campaign meter e =
      let none : false ≡ true = sym (ap (λ (f : Campaign → ℕ → Bool). f campaign meter) comes.led.done) ∙ e in
      false≢true none

  are_marked : (campaign : Campaign) (meter : ℕ) → (third.done campaign meter ≡ true) ↔ IsDoneIn fleet campaign meter
  are_marked campaign meter = (
    λ (e : marks.done campaign meter ≡ true). ⊎_elim (λ (before : second.done campaign meter ≡ true). absurd (none_done campaign meter before))
        (λ (c : Contains (done_among fleet.heads) (campaign, meter)). (are_done fleet campaign meter).0 c) ((marks.are campaign meter).0 e),
    λ (h : IsDoneIn fleet campaign meter). (marks.are campaign meter).1 (inr ((are_done fleet campaign meter).1 h)),
  )

  -- ---- the end

  ends_so : (meter : MeterEnd) → Stands fleet second meter [] → IsMeterIn third meter
  ends_so meter (stand, s) = record {
    last = s.now;
    there = s.there;
    left = s.left ∙ ap left_by s.leads.1 ∙ left_is stand s.now s.holds;
    switches = s.noted
        ∙ ap (map (switch_to meter.told.meter)) (sym (s.images ∙ ap (λ (l : List Image). s.had ++ l) s.leads.0 ∙ append-nil s.had));
  }

  told : IsTold fleet third
  told = record {
    offered = comes.come.offered;
    done = are_marked;
    sends = record {
      by_heads = λ head meter bytes of_heads of_meters c.
          comes.come.knows.by_heads head meter bytes of_heads of_meters (head_sent head meter.at bytes of_heads c);
      by_meters = λ head meter bytes of_heads of_meters c.
          comes.come.knows.by_meters head meter bytes of_heads of_meters (meter_sent meter head.at bytes of_meters c);
    };
    meters = λ k d inside. ends_so (slice_index_or fleet.meters k d) (comes.come.stands k (slice_index_or fleet.meters k d) (read_at fleet.meters k d inside));
    others = comes.come.others;
  }

  whole_run : Run (opening_of fleet) (opened.events ++ (comes.led.events ++ marks.events)) third
  whole_run =
      run_append (opening_of fleet) first third opened.events (comes.led.events ++ marks.events) opened.run
      (run_append first second third comes.led.events marks.events comes.led.run marks.run)

pub logs_are_runs : OfferedInBook → LogsAreRuns
logs_are_runs law fleet is = (
  opening_of fleet,
  (opened law fleet is).events ++ ((comes law fleet is).led.events ++ (marks law fleet is).events),
  third law fleet is,
  record {
    opens = opens fleet is.meters;
    begins = λ k d inside. begins fleet k (slice_index_or fleet.meters k d) is.numbers (read_at fleet.meters k d inside);
    only = only_at fleet;
    run = whole_run law fleet is;
    told = told law fleet is;
  },
)
