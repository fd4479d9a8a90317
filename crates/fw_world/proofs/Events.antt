-- What each event keeps.
use Rattle.std.proofs.Common.{◌≡◌, ℕ, ◌≤◌, zero, suc, Bool, true, false, nat_eq, inl, inr, ◌⊎◌, List, [], ◌∷◌, ◌++◌, get_or, Option, Some, None, refl, sym, ◌∙◌, ap, subst, eqb-true, eq-eqb, arith, All, AllPairs, Contains, slice_get}
use Rattle.std.proofs.lemmas.List.{append-nil}
use Rattle.std.proofs.lemmas.List.Elements.{All-append, All-weaker, All-head, All-tail, Contains-append_left, Contains-get_or, Contains-push_cases}
use Rattle.std.proofs.lemmas.List.Quantifiers.{all_pairs_push}
use Rattle.fw_names.specs.Laws as names
use Rattle.fw_names.specs.Name.{Campaign, Name, IsOpened, SpellsName, name_bytes, name_of, factory}
use Rattle.fw_apdu.specs.Laws as apdu
use Rattle.fw_client.specs.Ask.{initiate, request_of}
use Rattle.fw_server.specs.Meaning.{meaning_of}
use Rattle.fw_image.specs.Laws.{JoinedSize}
use Rattle.fw_image.specs.Meter.{restarted, Meter}
use Rattle.fw_meter.specs.Laws.{TellsRunning}
use Rattle.fw_world.specs.declared.datagram.Direction.TheVariants.{ToHead}
use Rattle.fw_world.specs.World.{Datagram, Activation, Offers, World, put, same_campaign, with_offer, with_meter, with_done}
use Rattle.fw_world.specs.Step.{IsOfOffer, MayAsk, Permits, replies, activated, Serves, Marks, StopsAt}
use Rattle.fw_world.specs.Headline.{IsOffered, HasActivated, FirstNames, IsOwn, InitiatesOffered, TellsOwn, IsSafe, IsDoneSafely, NeverFalls}
use Rattle.fw_world.specs.Laws.{IsSafeWorld}
use Rattle.fw_world.proofs.Maps.{put_cases, put_keeps, same_campaign_is}
use Rattle.fw_world.proofs.Spelled.{one_brought, is_initiate}
use Rattle.fw_world.proofs.SafeMeters.{IsSafeMeter, IsSafeAfter, quiet, restarted_safe, OffersGrow, offered_grows, own_grows, offers_grow, activations_grow, none_held, offered_name}
use Rattle.fw_world.proofs.Handled.{handles_safe, stops_safe, reply_asks, reply_is_own}

pub at_number : {X : Type 0} (P : X → Type 0) (xs : List X) (number : ℕ) (x : X) → All P xs → slice_get xs number ≡ Some x → P x
at_number P [] number x h e = absurd cc
at_number P (y ∷ ys) zero x h e = let same : y ≡ x = cc in subst P same (All-head P y ys h)
at_number P (y ∷ ys) (suc number) x h e = at_number P ys number x (All-tail P y ys h) e

-- ---- a world by its meters

pub meter_of : (IsFirst : FirstNames) (w : World) → IsSafeWorld IsFirst w → (number : ℕ) (meter : Meter) → w.meters number ≡ Some meter → IsSafeMeter IsFirst w.offered w.activations number meter
meter_of IsFirst w k number meter e =
    let sound = k.sound.meters number meter e in
    let trusted = k.goals.trusted number meter e in
    record {
      block_size = sound.block_size;
      named = sound.named;
      own = k.names.running number meter e;
      running = trusted.running;
      goals = λ goal f. k.goals.goals number meter goal e f;
      aimed = sound.aimed;
      newest = λ a held mine. k.releases.running a meter held (ap w.meters mine ∙ e);
      risen = sound.risen;
      cells = sound.cells;
      verified = trusted.verified;
    }

-- the parts of a safe world, with what holds of each meter in one place
pub record AreSafe (IsFirst : FirstNames) (w : World) : Type 0 where
  pub campaigns : (campaign : Campaign) (image : List ℕ) → w.offered campaign ≡ Some image → IsOpened campaign
  pub meters : (number : ℕ) (meter : Meter) → w.meters number ≡ Some meter → IsSafeMeter IsFirst w.offered w.activations number meter
  pub initiates : All (InitiatesOffered w.offered) w.sent
  pub told : All (TellsOwn IsFirst w.activations) w.sent
  pub activations : All (IsSafe w.offered) w.activations
  pub done : (campaign : Campaign) (meter : ℕ) → w.done campaign meter ≡ true → IsDoneSafely w campaign meter
  pub releases : AllPairs NeverFalls w.activations

pub world_of : (IsFirst : FirstNames) (w : World) → AreSafe IsFirst w → IsSafeWorld IsFirst w
world_of IsFirst w k = record {
  sound = record {
    campaigns = k.campaigns;
    meters = λ number meter e. let m = k.meters number meter e in record { block_size = m.block_size; named = m.named; aimed = m.aimed; risen = m.risen; cells = m.cells };
  };
  initiates = k.initiates;
  names = record { running = λ number meter e. (k.meters number meter e).own; told = k.told };
  goals = record {
    goals = λ number meter goal e f. (k.meters number meter e).goals goal f;
    trusted = λ number meter e. let m = k.meters number meter e in record { running = m.running; verified = m.verified };
  };
  activations = record { activations = k.activations; done = k.done };
  releases = record { activations = k.releases; running = λ a meter held e. (k.meters a.meter meter e).newest a held refl };
}

initiates_grow : (offered more : Offers) → OffersGrow offered more → (d : Datagram) → InitiatesOffered offered d → InitiatesOffered more d
initiates_grow offered more grows d h source invoke size content identifier brings e =
    let offer = h source invoke size content identifier brings e in
    (offer.0, offer.1, offered_grows offered more offer.0 size grows offer.2)

told_grows : (IsFirst : FirstNames) (activations more : List Activation) (d : Datagram) → TellsOwn IsFirst activations d → TellsOwn IsFirst (activations ++ more) d
told_grows IsFirst activations more d h invoke bytes way carries size =
    let own = h invoke bytes way carries size in
    (own.0, own.1, own_grows IsFirst activations more d.meter own.0 own.2)

safe_grows : (offered more : Offers) → OffersGrow offered more → (a : Activation) → IsSafe offered a → IsSafe more a
safe_grows offered more grows a h = record { image = h.image; offers = grows a.name.campaign h.image h.offers; sized = h.sized; digest = h.digest; named = h.named }

-- what a meter switched to is its own
activated_by : (number : ℕ) (name : Option Name) (after : Meter) (a : Activation) → Contains (activated number name after) a → a.meter ≡ number
activated_by number None after a held = absurd (none_held a held)
activated_by number (Some name) after a held = elim (Contains-push_cases [] _ a held) [
  | inl had ↦ absurd (none_held a had)
  | inr same ↦ ap (λ (x : Activation). x.meter) (sym same)
]

apart : (a b : ℕ) → nat_eq a b ≡ false → a ≡ b → ⊥
apart a b other same = let is : nat_eq a b ≡ true = eq-eqb a b same in cc

module _ (IsFirst : FirstNames) where
  -- ---- openings

  pub open_safe : (old : World) → IsSafeWorld IsFirst old → (campaign : Campaign) (image : List ℕ) → IsOpened campaign → old.offered campaign ≡ None → IsSafeWorld IsFirst (with_offer old campaign image)
  open_safe old k campaign image opened none = world_of IsFirst (with_offer old campaign image) (record {
    campaigns = λ other found e. elim (put_cases same_campaign old.offered campaign other (Some image) (Some found) e) [
      | inl same ↦ subst IsOpened (sym (same_campaign_is other campaign same.0)) opened
      | inr away ↦ k.sound.campaigns other found away.1
    ];
    meters = λ number meter e. offers_grow IsFirst old.offered more old.activations number meter grows (meter_of IsFirst old k number meter e);
    initiates = All-weaker (InitiatesOffered old.offered) (InitiatesOffered more) (initiates_grow old.offered more grows) old.sent k.initiates;
    told = k.names.told;
    activations = All-weaker (IsSafe old.offered) (IsSafe more) (safe_grows old.offered more grows) old.activations k.activations.activations;
    done = λ c meter e. let d = k.activations.done c meter e in record { release = d.release; image = d.image; offers = grows c d.image d.offers; activated = d.activated };
    releases = k.releases.activations;
  })
    where
      more : Offers
      more = put same_campaign old.offered campaign (Some image)

      grows : OffersGrow old.offered more
      grows other found e = put_keeps old.offered campaign image other found none e

  -- ---- a head end's sends

  -- what a head end may ask
  ask_is_offered : apdu.OneRequest → (offered : Offers) → ((campaign : Campaign) (image : List ℕ) → offered campaign ≡ Some image → IsOpened campaign) → (head meter : ℕ) (d : Datagram)
      → Permits offered head meter d → InitiatesOffered offered d
  ask_is_offered requests offered campaigns head meter d p source invoke size content identifier brings e =
      let same : content ≡ request_of p.asked = one_brought requests d.bytes source invoke p.invoke content (request_of p.asked) p.carries brings in
      let initiates = is_initiate p.asked identifier size (ap meaning_of (sym same) ∙ e) in
      let of_offer : IsOfOffer offered head (initiate initiates.name size) = subst (MayAsk offered head) initiates.is p.may in
      let name : Name = name_of of_offer.campaign of_offer.release of_offer.image in
      let offer : IsOffered offered name size = record { image = of_offer.image; offers = of_offer.offers; named = refl; sized = of_offer.may.1 } in
      let is_name = offered_name offered campaigns of_offer.campaign of_offer.release of_offer.image of_offer.offers of_offer.is_release in
      (name, record { is_name = is_name; spelled = initiates.spelled ∙ ap name_bytes of_offer.may.0 }, offer)

  ask_tells_nothing : (offered : Offers) (activations : List Activation) (head meter : ℕ) (d : Datagram) → Permits offered head meter d → TellsOwn IsFirst activations d
  ask_tells_nothing offered activations head meter d p invoke bytes way carries size = let other = ap (λ (x : Datagram). x.direction) p.link in absurd cc

  pub tick_safe : apdu.OneRequest → (old : World) → IsSafeWorld IsFirst old → (head meter : ℕ) (sends : List Datagram) → All (Permits old.offered head meter) sends
      → IsSafeWorld IsFirst (record old { sent = old.sent ++ sends })
  tick_safe requests old k head meter sends may = world_of IsFirst (record old { sent = old.sent ++ sends }) (record {
    campaigns = k.sound.campaigns;
    meters = meter_of IsFirst old k;
    initiates = All-append (InitiatesOffered old.offered) old.sent sends k.initiates
        (All-weaker (Permits old.offered head meter) (InitiatesOffered old.offered) (ask_is_offered requests old.offered k.sound.campaigns head meter) sends may);
    told = All-append (TellsOwn IsFirst old.activations) old.sent sends k.names.told
        (All-weaker (Permits old.offered head meter) (TellsOwn IsFirst old.activations) (ask_tells_nothing old.offered old.activations head meter) sends may);
    activations = k.activations.activations;
    done = λ c m e. let d = k.activations.done c m e in record { release = d.release; image = d.image; offers = d.offers; activated = d.activated };
    releases = k.releases.activations;
  })

  -- ---- a meter goes on

  -- with datagrams that are sent, and an image that it may have switched to
  moves_safe : (old : World) → IsSafeWorld IsFirst old → (number : ℕ) (name : Option Name) (after : Meter) → IsSafeAfter IsFirst old.offered old.activations number name after
      → (sent : List Datagram) → All (InitiatesOffered old.offered) sent → All (TellsOwn IsFirst (old.activations ++ activated number name after)) sent
      → IsSafeWorld IsFirst (record (with_meter old number after) { sent = sent; activations = old.activations ++ activated number name after })
  moves_safe old k number name after safe sent initiates told =
      world_of IsFirst (record (with_meter old number after) { sent = sent; activations = old.activations ++ more }) (record {
        campaigns = k.sound.campaigns;
        meters = λ other meter e. elim (put_cases nat_eq old.meters number other (Some after) (Some meter) e) [
          | inl same ↦
              let numbers : number ≡ other = sym (eqb-true other number same.0) in
              let meters : after ≡ meter = cc (same.1) in
              subst (λ (n : ℕ). IsSafeMeter IsFirst old.offered (old.activations ++ more) n meter) numbers
              (subst (λ (m : Meter). IsSafeMeter IsFirst old.offered (old.activations ++ more) number m) meters safe.meter)
          | inr away ↦
              let others : (a : Activation) → Contains more a → a.meter ≡ other → ⊥ = λ a held its. apart other number away.0 (sym its ∙ activated_by number name after a held) in
              activations_grow IsFirst old.offered old.activations more other meter others (meter_of IsFirst old k other meter away.1)
        ];
        initiates = initiates;
        told = told;
        activations = All-append (IsSafe old.offered) old.activations more k.activations.activations safe.activation;
        done = λ c m e. let d = k.activations.done c m e in record { release = d.release; image = d.image; offers = d.offers; activated = (d.activated.0, Contains-append_left old.activations more _ d.activated.1) };
        releases = rises name safe;
      })
    where
      more : List Activation
      more = activated number name after

      -- what is switched to has no lower release than what the meter switched to before
      rises : (name : Option Name) → IsSafeAfter IsFirst old.offered old.activations number name after → AllPairs NeverFalls (old.activations ++ activated number name after)
      rises None safe = subst (AllPairs NeverFalls) (sym (append-nil old.activations)) k.releases.activations
      rises (Some given) safe =
          all_pairs_push NeverFalls old.activations _ k.releases.activations
          (λ at d within mine.
          let a = get_or old.activations at d in
          let held = Contains-append_left old.activations (activated number (Some given) after) a (Contains-get_or old.activations at d within) in
          subst (λ (n : Name). a.name.release ≤ n.release) (sym (safe.runs given refl)) (safe.meter.newest a held mine))

  pub serves_safe : JoinedSize → names.OneName → TellsRunning → (old : World) → IsSafeWorld IsFirst old → (d : Datagram) → InitiatesOffered old.offered d → (new : World) → Serves old d new → IsSafeWorld IsFirst new
  serves_safe sizes one_name tells old k d asks new s =
      subst (IsSafeWorld IsFirst) (sym s.new_is)
      (moves_safe old k d.meter s.name s.after (handles_safe sizes one_name IsFirst old.offered old.activations d asks s.before before s.reply s.name s.after s.handles)
      (old.sent ++ replies d s.reply)
      (All-append (InitiatesOffered old.offered) old.sent (replies d s.reply) k.initiates
      (reply_asks sizes one_name IsFirst old.offered old.activations d asks s.before before s.reply s.name s.after s.handles))
      (All-append (TellsOwn IsFirst (old.activations ++ more)) old.sent (replies d s.reply)
      (All-weaker (TellsOwn IsFirst old.activations) (TellsOwn IsFirst (old.activations ++ more)) (told_grows IsFirst old.activations more) old.sent k.names.told)
      (reply_is_own sizes one_name IsFirst old.offered old.activations d asks s.before before tells more s.reply s.name s.after s.handles)))
    where
      more : List Activation
      more = activated d.meter s.name s.after

      before : IsSafeMeter IsFirst old.offered old.activations d.meter s.before
      before = meter_of IsFirst old k d.meter s.before s.there

  -- a meter goes on, and switches to nothing
  pub meter_safe : (old : World) → IsSafeWorld IsFirst old → (number : ℕ) (after : Meter) → IsSafeMeter IsFirst old.offered old.activations number after → IsSafeWorld IsFirst (with_meter old number after)
  meter_safe old k number after safe =
      subst (IsSafeWorld IsFirst) (ap (λ (l : List Activation). (let w : World = record (with_meter old number after) { activations = l } in w)) (append-nil old.activations))
      (moves_safe old k number None after (quiet IsFirst old.offered old.activations number after safe) old.sent k.initiates
      (All-weaker (TellsOwn IsFirst old.activations) (TellsOwn IsFirst (old.activations ++ [])) (told_grows IsFirst old.activations []) old.sent k.names.told))

  pub stop_safe : JoinedSize → names.OneName → (old : World) → IsSafeWorld IsFirst old → (d : Datagram) → InitiatesOffered old.offered d → (new : World) → StopsAt old d new → IsSafeWorld IsFirst new
  stop_safe sizes one_name old k d asks new s =
      subst (IsSafeWorld IsFirst) (sym (s.new_is ∙ noted s.name))
      (moves_safe old k d.meter s.name (restarted s.after)
      (reopens s.name (stops_safe sizes one_name IsFirst old.offered old.activations d asks s.before (meter_of IsFirst old k d.meter s.before s.there) s.name s.after s.stops))
      old.sent k.initiates
      (All-weaker (TellsOwn IsFirst old.activations) (TellsOwn IsFirst (old.activations ++ more)) (told_grows IsFirst old.activations more) old.sent k.names.told))
    where
      more : List Activation
      more = activated d.meter s.name (restarted s.after)

      -- a restart leaves the image that runs
      noted : (name : Option Name) → (let w : World = record (with_meter old d.meter (restarted s.after)) { activations = old.activations ++ activated d.meter name s.after } in w)
          ≡ record (with_meter old d.meter (restarted s.after)) { activations = old.activations ++ activated d.meter name (restarted s.after) }
      noted None = refl
      noted (Some name) = refl

      reopens : (name : Option Name) → IsSafeAfter IsFirst old.offered old.activations d.meter name s.after → IsSafeAfter IsFirst old.offered old.activations d.meter name (restarted s.after)
      reopens None safe = record { meter = restarted_safe IsFirst old.offered (old.activations ++ []) d.meter s.after safe.meter; runs = safe.runs; activation = safe.activation }
      reopens (Some name) safe = record {
        meter = restarted_safe IsFirst old.offered (old.activations ++ activated d.meter (Some name) s.after) d.meter s.after safe.meter;
        runs = safe.runs;
        activation = safe.activation;
      }

  -- ---- marks

  done_cases : (old : World) (campaign c : Campaign) (meter m : ℕ) → (with_done old campaign meter).done c m ≡ true → ((c ≡ campaign) × (m ≡ meter)) ⊎ (old.done c m ≡ true)
  done_cases old campaign c meter m e = elim (put_cases same_campaign old.done campaign c row (put same_campaign old.done campaign row c) refl) [
    | inl same ↦ elim (put_cases nat_eq (old.done campaign) meter m true true (ap (λ (r : ℕ → Bool). r m) same.1 ∙ e)) [
      | inl here ↦ inl (same_campaign_is c campaign same.0, eqb-true m meter here.0)
      | inr away ↦ inr (ap (λ (x : Campaign). old.done x m) (same_campaign_is c campaign same.0) ∙ away.1)
    ]
    | inr away ↦ inr (ap (λ (r : ℕ → Bool). r m) away.1 ∙ e)
  ]
    where
      row : ℕ → Bool
      row = put nat_eq (old.done campaign) meter true

  -- what a meter reported of a campaign is the name of an image that it switched to
  claim_is_activated : ((number : ℕ) (name : Name) → IsFirst number name → name.campaign ≡ factory) → (activations : List Activation) (meter : ℕ) (campaign : Campaign) (release : ℕ) (image : List ℕ) (name : Name)
      → IsOpened campaign → name ≡ name_of campaign release image → IsOwn IsFirst activations meter name → HasActivated activations meter (name_of campaign release image)
  claim_is_activated first activations meter campaign release image name opened same (inl f) =
      let none : campaign.head ≡ 0 = ap (λ (n : Name). n.campaign.head) (sym same) ∙ ap (λ (c : Campaign). c.head) (first meter name f) in
      let begins = opened.head_begins in
      absurd (omega arith)
  claim_is_activated first activations meter campaign release image name opened same (inr had) = subst (HasActivated activations meter) same had

  pub marks_safe : names.OneName → names.SpellingSize → ((number : ℕ) (name : Name) → IsFirst number name → name.campaign ≡ factory) → (old : World) → IsSafeWorld IsFirst old → (d : Datagram) → d.direction ≡ ToHead
      → TellsOwn IsFirst old.activations d → (new : World) → Marks old d new → IsSafeWorld IsFirst new
  marks_safe one_name size first old k d way told new s =
      subst (IsSafeWorld IsFirst) (sym s.new_is) (world_of IsFirst marked (record {
        campaigns = k.sound.campaigns;
        meters = meter_of IsFirst old k;
        initiates = k.initiates;
        told = k.names.told;
        activations = k.activations.activations;
        done = λ c m e. elim (done_cases old s.campaign c d.meter m e) [
          | inl same ↦
              subst (λ (x : Campaign). IsDoneSafely marked x m) (sym same.0)
              (subst (λ (x : ℕ). IsDoneSafely marked s.campaign x) (sym same.1) (record { release = s.release; image = s.image; offers = s.offers; activated = active }))
          | inr had ↦ let x = k.activations.done c m had in record { release = x.release; image = x.image; offers = x.offers; activated = x.activated }
        ];
        releases = k.releases.activations;
      }))
    where
      marked : World
      marked = with_done old s.campaign d.meter

      own : (name : Name) × SpellsName s.bytes name × IsOwn IsFirst old.activations d.meter name
      own = told s.invoke s.bytes way s.carries (size s.bytes (name_of s.campaign s.release s.image) s.spells)

      active : HasActivated old.activations d.meter (name_of s.campaign s.release s.image)
      active =
          claim_is_activated first old.activations d.meter s.campaign s.release s.image own.0 (k.sound.campaigns s.campaign s.image s.offers)
          (one_name s.bytes own.0 (name_of s.campaign s.release s.image) own.1 s.spells) own.2
