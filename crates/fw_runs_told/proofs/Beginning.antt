-- The world of the new meters of a fleet, and the campaigns that are opened in it.
use Rattle.std.proofs.Common.{◌≡◌, ◌≢◌, ◌++◌, ◌⊎◌, ℕ, zero, suc, nat_eq, true, false, List, [], ◌∷◌, map, Some, None, slice_get, inl, inr, refl, sym, ap, subst, ◌∙◌, arith, ⊎_elim}
use Rattle.std.specs.Prelude.{All, AllPairs, Contains}
use Rattle.std.specs.Map.{lookup}
use Rattle.std.proofs.lemmas.Bool.{cond-true, cond-false, cases_Bool, eqb-true, ne_eqb}
use Rattle.std.proofs.lemmas.List.Elements.{All-contains}
use Rattle.std.proofs.lemmas.Map.Views.{Contains-from_lookup}
use Rattle.fw_names.specs.Name.{Campaign, IsOpened}
use Rattle.fw_image.specs.Meter.{Meter}
use Rattle.fw_world.specs.World.{Offers, World, put, same_campaign}
use Rattle.fw_world.specs.Step.{Event, IsOpening, Run, open_campaign}
use Rattle.fw_runs_told.specs.Fleet.{Fleet, IsMeterSound, IsNew, IsNumber, MeterEnd, number_of_meter}
use Rattle.fw_runs_told.proofs.Lists.{cases_Option, in_cases, in_map, none_in, one_value, pairs_tail, same_some}
use Rattle.fw_runs_told.proofs.Worlds.{campaign_itself, itself, run_append, same_campaign_is}

-- ---- new meters

abbrev entry_of : MeterEnd → ℕ × Meter
entry_of meter = (meter.told.meter, meter.told.begin)

-- the world before all logs
abbrev pub opening_of : Fleet → World
opening_of fleet = record {
  offered = λ campaign. None;
  sent = [];
  meters = λ number. lookup (nat_eq number) (map entry_of fleet.meters);
  activations = [];
  done = λ campaign meter. false;
}

new_at : (fleet : Fleet) → All (IsMeterSound fleet) fleet.meters → (number : ℕ) (meter : Meter) → lookup (nat_eq number) (map entry_of fleet.meters) ≡ Some meter → IsNew meter
new_at fleet sound number meter e =
    let c : Contains (map entry_of fleet.meters) (number, meter) = Contains-from_lookup eqb-true number meter (map entry_of fleet.meters) e in
    let of = in_map entry_of fleet.meters (number, meter) c in
    let own : of.0.told.begin ≡ meter = ap (λ (entry : ℕ × Meter). entry.1) of.2 in
    subst IsNew own (All-contains (IsMeterSound fleet) fleet.meters of.0 sound of.1).begins

pub opens : (fleet : Fleet) → All (IsMeterSound fleet) fleet.meters → IsOpening (opening_of fleet)
opens fleet sound = record {
  offered = λ campaign. refl;
  sent = refl;
  meters = new_at fleet sound;
  activations = refl;
  done = λ campaign meter. refl;
}

pub only_at : (fleet : Fleet) (number : ℕ) (meter : Meter) → lookup (nat_eq number) (map entry_of fleet.meters) ≡ Some meter → IsNumber fleet number
only_at fleet number meter e =
    let c : Contains (map entry_of fleet.meters) (number, meter) = Contains-from_lookup eqb-true number meter (map entry_of fleet.meters) e in
    let of = in_map entry_of fleet.meters (number, meter) c in
    (of.0, of.1, ap (λ (entry : ℕ × Meter). entry.0) of.2)

differs : (first meter : MeterEnd) (meters : List MeterEnd) (at : ℕ) → AllPairs ◌≢◌ (map number_of_meter (first ∷ meters)) → slice_get (first ∷ meters) (suc at) ≡ Some meter
    → meter.told.meter ≢ first.told.meter
differs first meter meters at apart there same =
    let one : zero ≡ suc at = one_value number_of_meter (first ∷ meters) zero (suc at) first meter apart refl there (sym same) in absurd (omega (arith, one))

begins_at : (meters : List MeterEnd) (at : ℕ) (meter : MeterEnd) → AllPairs ◌≢◌ (map number_of_meter meters) → slice_get meters at ≡ Some meter
    → lookup (nat_eq meter.told.meter) (map entry_of meters) ≡ Some meter.told.begin
begins_at [] at meter apart there = absurd cc
begins_at (first ∷ meters) zero meter apart there =
    let same : first ≡ meter = same_some first meter there in
    let own : nat_eq meter.told.meter first.told.meter ≡ true = ap (λ (m : MeterEnd). nat_eq meter.told.meter m.told.meter) same ∙ itself meter.told.meter in
    cond-true (nat_eq meter.told.meter first.told.meter) (Some first.told.begin) (lookup (nat_eq meter.told.meter) (map entry_of meters)) own
    ∙ ap (λ (m : MeterEnd). Some m.told.begin) same
begins_at (first ∷ meters) (suc at) meter apart there =
    cond-false (nat_eq meter.told.meter first.told.meter) (Some first.told.begin) (lookup (nat_eq meter.told.meter) (map entry_of meters))
    (ne_eqb meter.told.meter first.told.meter (differs first meter meters at apart there))
    ∙ begins_at meters at meter (pairs_tail ◌≢◌ first.told.meter (map number_of_meter meters) apart) there

pub begins : (fleet : Fleet) (at : ℕ) (meter : MeterEnd) → AllPairs ◌≢◌ (map number_of_meter fleet.meters) → slice_get fleet.meters at ≡ Some meter
    → (opening_of fleet).meters meter.told.meter ≡ Some meter.told.begin
begins fleet at meter apart there = begins_at fleet.meters at meter apart there

-- ---- campaigns are opened

-- the same world, with these offers
abbrev pub with_offers : World → Offers → World
with_offers w offered = (let x : World = record w { offered = offered } in x)

-- What is offered is what should be, or nothing.
abbrev pub IsPartOf : Offers → Offers → Type 0
IsPartOf all offered = (campaign : Campaign) → (offered campaign ≡ None) ⊎ (offered campaign ≡ all campaign)

-- Events open campaigns, and these are among those that then offer what they should.
pub record Opens (all : Offers) (w : World) (campaigns : List Campaign) : Type 0 where
  pub events : List Event
  pub offered : Offers
  pub run : Run w events (with_offers w offered)
  pub part : IsPartOf all offered
  pub has : (campaign : Campaign) → Contains campaigns campaign → offered campaign ≡ all campaign
  pub keeps : (campaign : Campaign) → w.offered campaign ≡ all campaign → offered campaign ≡ all campaign

module _ (all : Offers) (proper : (campaign : Campaign) (image : List ℕ) → all campaign ≡ Some image → IsOpened campaign) where
  -- nothing is to be opened
  opens_none : (w : World) (campaign : Campaign) → IsPartOf all w.offered → w.offered campaign ≡ all campaign → Opens all w (campaign ∷ [])
  opens_none w campaign part there = record {
    events = [];
    offered = w.offered;
    run = refl;
    part = part;
    has = λ other c. ⊎_elim (λ (same : campaign ≡ other). ap w.offered (sym same) ∙ there ∙ ap all same) (λ (none : Contains [] other). absurd (none_in other none))
        (in_cases campaign other [] c);
    keeps = λ other is. is;
  }

  -- what is offered once a campaign was opened
  abbrev with_one : Offers → Campaign → List ℕ → Offers
  with_one offered campaign image = put same_campaign offered campaign (Some image)

  at_own : (offered : Offers) (campaign : Campaign) (image : List ℕ) → with_one offered campaign image campaign ≡ Some image
  at_own offered campaign image = cond-true (same_campaign campaign campaign) (Some image) (offered campaign) (campaign_itself campaign)

  -- of a campaign there is what should be, or what there was
  at_any : (offered : Offers) (campaign other : Campaign) (image : List ℕ) → all campaign ≡ Some image
      → (with_one offered campaign image other ≡ all other) ⊎ (with_one offered campaign image other ≡ offered other)
  at_any offered campaign other image should =
      ⊎_elim
      (λ (own : same_campaign other campaign ≡ true).
      let same : other ≡ campaign = same_campaign_is other campaign own in
      inl (cond-true (same_campaign other campaign) (Some image) (offered other) own ∙ sym should ∙ ap all (sym same)))
      (λ (apart : same_campaign other campaign ≡ false). inr (cond-false (same_campaign other campaign) (Some image) (offered other) apart))
      (cases_Bool (same_campaign other campaign))

  opens_it : (w : World) (campaign : Campaign) (image : List ℕ) → IsPartOf all w.offered → w.offered campaign ≡ None → all campaign ≡ Some image → Opens all w (campaign ∷ [])
  opens_it w campaign image part none should =
      let offered : Offers = with_one w.offered campaign image in
      record {
        events = open_campaign campaign 0 image [] ∷ [];
        offered = offered;
        run = (with_offers w offered, (proper campaign image should, none, refl), refl);
        part = λ other. ⊎_elim (λ (is : offered other ≡ all other). inr is)
            (λ (was : offered other ≡ w.offered other). ⊎_elim (λ (gone : w.offered other ≡ None). inl (was ∙ gone)) (λ (is : w.offered other ≡ all other). inr (was ∙ is)) (part other))
            (at_any w.offered campaign other image should);
        has = λ other c. ⊎_elim
            (λ (same : campaign ≡ other). subst (λ (x : Campaign). offered x ≡ all x) same (at_own w.offered campaign image ∙ sym should))
            (λ (nothing : Contains [] other). absurd (none_in other nothing))
            (in_cases campaign other [] c);
        keeps = λ other is. ⊎_elim (λ (there : offered other ≡ all other). there) (λ (was : offered other ≡ w.offered other). was ∙ is) (at_any w.offered campaign other image should);
      }

  opens_next : (w : World) (campaign : Campaign) → IsPartOf all w.offered → Opens all w (campaign ∷ [])
  opens_next w campaign part =
      ⊎_elim
      (λ (none : w.offered campaign ≡ None). ⊎_elim (λ (never : all campaign ≡ None). opens_none w campaign part (none ∙ sym never))
      (λ (h : (image : List ℕ) × (all campaign ≡ Some image)). opens_it w campaign h.0 part none h.1) (cases_Option (all campaign)))
      (λ (there : w.offered campaign ≡ all campaign). opens_none w campaign part there)
      (part campaign)

  pub opens_all : (campaigns : List Campaign) (w : World) → IsPartOf all w.offered → Opens all w campaigns
  opens_all [] w part = record { events = []; offered = w.offered; run = refl; part = part; has = λ campaign c. absurd (none_in campaign c); keeps = λ campaign is. is }
  opens_all (campaign ∷ campaigns) w part =
      let one = opens_next w campaign part in
      let rest = opens_all campaigns (with_offers w one.offered) one.part in
      record {
        events = one.events ++ rest.events;
        offered = rest.offered;
        run = run_append w (with_offers w one.offered) (with_offers w rest.offered) one.events rest.events one.run rest.run;
        part = rest.part;
        has = λ other c. ⊎_elim
            (λ (same : campaign ≡ other). rest.keeps other (one.has other (subst (λ (x : Campaign). Contains (campaign ∷ []) x) same (first_of campaign))))
            (λ (later : Contains campaigns other). rest.has other later)
            (in_cases campaign other campaigns c);
        keeps = λ other is. rest.keeps other (one.keeps other is);
      }
    where
      first_of : (c : Campaign) → Contains (c ∷ []) c
      first_of c = (zero, omega arith, refl)
