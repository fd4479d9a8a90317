-- The headline, of what the logs of a fleet tell.
use Rattle.std.proofs.Common.{◌≡◌, ℕ, eqb, List, map, slice_index_or, refl, sym, ap, subst, ◌∙◌}
use Rattle.std.specs.Prelude.{AllPairs, Contains}
use Rattle.std.specs.declared.net.socket_addr.SocketAddr.{SocketAddr}
use Rattle.std.proofs.lemmas.Bool.Decides.{Decides-eqb}
use Rattle.std.proofs.lemmas.List.Elements.{All-contains}
use Rattle.fw_names.specs.Name.{Campaign, name_of}
use Rattle.fw_image.specs.Meter.{Image}
use Rattle.fw_head_audit.specs.Heads.{HasClaimed, IsAsked}
use Rattle.fw_world.specs.Headline as world
use Rattle.fw_world.specs.Headline.{ActivationsAreSafe, ReleasesNeverFall}
use Rattle.fw_world.specs.Laws.{AfterEachRun}
use Rattle.fw_world.specs.World.{Activation, World}
use Rattle.fw_runs_told.specs.Fleet.{AsksMeters, Fleet, HeadEnd, IsAudited, IsHeadSound, IsMeterOf, IsNumber, MeterEnd, books_in}
use Rattle.fw_runs_told.specs.Laws.{HasSwitchedTo, HeadlineOfLogs, IsDoneSafely, IsSafe, LogsAreRuns, NeverFalls}
use Rattle.fw_runs_told.specs.Runs.{IsDoneIn, IsMeterIn, IsTold, switch_to, switches_of}
use Rattle.fw_runs_told.proofs.Lists.{filter_in, in_filter, in_map, map_in, pairs_filter, pairs_map, read_at, got_in}
use Rattle.fw_runs_told.proofs.Rows.{IsDoneRow, done_claimed, done_row}

-- whom a head end asks is of the fleet
asked_meter : (fleet : Fleet) (head : HeadEnd) (meter : ℕ) (at : SocketAddr) → AsksMeters fleet head → IsAsked head.asked meter at
    → IsNumber fleet meter
asked_meter fleet head meter at asks (asked, among, (own, is_at)) =
    let of : IsMeterOf fleet asked = All-contains (IsMeterOf fleet) head.asked asked asks among in
    (of.0, of.1, of.2.0 ∙ own)

-- a meter that is done in a book is one of the fleet
done_meter : (fleet : Fleet) → IsAudited fleet → (campaign : Campaign) (meter : ℕ) → IsDoneIn fleet campaign meter → IsNumber fleet meter
done_meter fleet is campaign meter (head, inside, e) =
    let sound : IsHeadSound fleet head = All-contains (IsHeadSound fleet) fleet.heads head is.heads inside in
    let d : IsDoneRow head.book campaign meter = done_row head.book campaign meter e in
    let claimed : HasClaimed head.asked head.log meter (name_of campaign d.offer.release d.offer.image) = done_claimed head.book head.asked head.log campaign meter d sound.log.done in
    asked_meter fleet head meter claimed.0 sound.asks claimed.1

module _ (fleet : Fleet) (w : World) (told : IsTold fleet w) where
  meter_in : (meter : MeterEnd) → Contains fleet.meters meter → IsMeterIn w meter
  meter_in meter inside = All-contains (IsMeterIn w) fleet.meters meter told.meters inside

  -- what a meter switched to by its log, it switched to in the world
  noted : (meter : MeterEnd) (image : Image) → Contains fleet.meters meter → Contains meter.told.images image → Contains w.activations (switch_to meter.told.meter image)
  noted meter image inside c =
      let number : ℕ = meter.told.meter in
      filter_in (λ (a : Activation). eqb a.meter number) w.activations (switch_to number image)
      (subst (λ (l : List Activation). Contains l (switch_to number image)) (sym (meter_in meter inside).switches)
      (map_in (switch_to number) meter.told.images image c))

  -- and the other way
  switched : (meter : MeterEnd) (a : Activation) → Contains fleet.meters meter → a.meter ≡ meter.told.meter → Contains w.activations a
      → (image : Image) × Contains meter.told.images image × (switch_to meter.told.meter image ≡ a)
  switched meter a inside own c =
      let number : ℕ = meter.told.meter in
      in_map (switch_to number) meter.told.images a
      (subst (λ (l : List Activation). Contains l a) (meter_in meter inside).switches
      (in_filter (λ (x : Activation). eqb x.meter number) w.activations a c ((Decides-eqb a.meter number).1 own)))

  is_safe : ActivationsAreSafe w → (number : ℕ) (image : Image) → HasSwitchedTo fleet number image → IsSafe (books_in fleet) image
  is_safe safe number image (meter, inside, (own, c)) =
      let s : world.IsSafe w.offered (switch_to meter.told.meter image) =
      All-contains (world.IsSafe w.offered) w.activations (switch_to meter.told.meter image) safe.activations (noted meter image inside c) in
      record {
        offered = s.image;
        offers = sym (told.offered image.name.campaign) ∙ s.offers;
        sized = s.sized;
        digest = s.digest ∙ sym s.named;
      }

  is_done : ActivationsAreSafe w → (campaign : Campaign) (number : ℕ) → IsDoneIn fleet campaign number → IsNumber fleet number
      → IsDoneSafely fleet campaign number
  is_done safe campaign number done (meter, inside, own) =
      let d : world.IsDoneSafely w campaign number = safe.done campaign number ((told.done campaign number).1 done) in
      let a : Activation = record { meter = number; name = name_of campaign d.release d.image; bytes = d.activated.0 } in
      let image = switched meter a inside (sym own) d.activated.1 in
      record {
        release = d.release;
        offered = d.image;
        offers = sym (told.offered campaign) ∙ d.offers;
        image = image.0;
        named = ap (λ (x : Activation). x.name) image.2;
        switched = (meter, inside, (own, image.1));
      }

  never_falls : ReleasesNeverFall w → (meter : MeterEnd) → Contains fleet.meters meter → AllPairs NeverFalls meter.told.images
  never_falls releases meter inside i j d order within =
      let number : ℕ = meter.told.meter in
      let all : AllPairs world.NeverFalls (switches_of w.activations number) =
      pairs_filter world.NeverFalls (λ (a : Activation). eqb a.meter number) w.activations releases.activations in
      let own : AllPairs world.NeverFalls (map (switch_to number) meter.told.images) = subst (λ (l : List Activation). AllPairs world.NeverFalls l) (meter_in meter inside).switches all in
      pairs_map world.NeverFalls (switch_to number) meter.told.images own i j d order within refl

pub headline_of_logs : LogsAreRuns → AfterEachRun (λ opening w. ActivationsAreSafe w) → AfterEachRun (λ opening w. ReleasesNeverFall w) → HeadlineOfLogs
headline_of_logs law safe releases fleet is =
    let run = law fleet is in
    let w : World = run.2 in
    let told : IsTold fleet w = run.3.told in
    let are_safe : ActivationsAreSafe w = safe run.0 w run.1 run.3.opens run.3.run in
    let fall : ReleasesNeverFall w = releases run.0 w run.1 run.3.opens run.3.run in
    record {
      safe = is_safe fleet w told are_safe;
      done = λ campaign number done. is_done fleet w told are_safe campaign number done (done_meter fleet is campaign number done);
      risen = λ k d inside. never_falls fleet w told fall (slice_index_or fleet.meters k d) (got_in fleet.meters k (slice_index_or fleet.meters k d) (read_at fleet.meters k d inside));
    }
