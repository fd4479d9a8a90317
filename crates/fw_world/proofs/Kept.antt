-- What every step keeps, and so every run.
use Rattle.std.proofs.Common.{◌≡◌, ℕ, inl, inr, List, [], ◌∷◌, Some, refl, sym, ◌∙◌, ap, subst, arith, All, AllPairs, Contains}
use Rattle.std.proofs.lemmas.List.Elements.{All-nil, All-contains, All-weaker}
use Rattle.sha2.proofs.Facts256.{length-sha256}
use Rattle.fw_names.specs.Laws as names
use Rattle.fw_names.specs.Name.{Name, factory}
use Rattle.fw_apdu.specs.Laws as apdu
use Rattle.fw_store.specs.Setup.{IsSetup}
use Rattle.fw_store.specs.declared.version.HeaderVersion.{HeaderVersion}
use Rattle.fw_image.specs.Fresh.{fresh_meter}
use Rattle.fw_image.specs.Laws.{JoinedSize}
use Rattle.fw_image.specs.Meter.{Meter, reopened, restarted}
use Rattle.fw_meter.specs.Laws.{TellsRunning}
use Rattle.fw_world.specs.declared.datagram.Direction.{Direction}
use Rattle.fw_world.specs.declared.datagram.Direction.TheVariants.{ToMeter, ToHead}
use Rattle.fw_world.specs.World.{Activation, Datagram, World}
use Rattle.fw_world.specs.Step.{Event, open_campaign, cancel_campaign, tick, deliver, stop, restart_meter, stop_restart, restart_head, turn, Delivers, WorldStep, IsOpening, Run}
use Rattle.fw_world.specs.Headline.{FirstNames, IsFactoryName, IsFirstName, IsOwn, InitiatesOffered, TellsOwn, IsSafe, NeverFalls, ActivationsAreEqual}
use Rattle.fw_world.specs.Laws.{AfterEachRun, IsSafeWorld, EveryStepIsSafe}
use Rattle.fw_world.proofs.SafeMeters.{IsSafeMeter, none_held, reopened_safe, restarted_safe, turn_safe}
use Rattle.fw_world.proofs.Events.{at_number, world_of, meter_of, meter_safe, open_safe, tick_safe, serves_safe, stop_safe, marks_safe}

module _ (sizes : JoinedSize) (one_name : names.OneName) (size : names.SpellingSize) (requests : apdu.OneRequest) (tells : TellsRunning) where
  module _ (IsFirst : FirstNames) (first : (number : ℕ) (name : Name) → IsFirst number name → name.campaign ≡ factory) where
    step_safe : (old new : World) (event : Event) → WorldStep old event new → IsSafeWorld IsFirst old → IsSafeWorld IsFirst new
    step_safe old new (open_campaign campaign release image meters) s k = subst (IsSafeWorld IsFirst) (sym s.2) (open_safe IsFirst old k campaign image s.0 s.1)
    step_safe old new (cancel_campaign campaign) s k = subst (IsSafeWorld IsFirst) (sym s) k
    step_safe old new (tick head meter) s k = subst (IsSafeWorld IsFirst) (sym s.2) (tick_safe IsFirst requests old k head meter s.0 s.1)
    step_safe old new (deliver number) s k = delivers s.0.direction refl s.2
      where
        delivers : (way : Direction) → s.0.direction ≡ way → Delivers way old s.0 new → IsSafeWorld IsFirst new
        delivers ToMeter is serves =
            serves_safe IsFirst sizes one_name tells old k s.0 (at_number (InitiatesOffered old.offered) old.sent number s.0 k.initiates s.1) new serves
        delivers ToHead is (inl same) = subst (IsSafeWorld IsFirst) (sym same) k
        delivers ToHead is (inr marks) =
            marks_safe IsFirst one_name size first old k s.0 is (at_number (TellsOwn IsFirst old.activations) old.sent number s.0 k.names.told s.1) new marks
    step_safe old new (stop number calls torn) s k =
        stop_safe IsFirst sizes one_name old k s.0 (at_number (InitiatesOffered old.offered) old.sent number s.0 k.initiates s.1) new s.3
    step_safe old new (restart_meter number) s k =
        subst (IsSafeWorld IsFirst) (sym s.2) (meter_safe IsFirst old k number (restarted s.0) (restarted_safe IsFirst old.offered old.activations number s.0 (meter_of IsFirst old k number s.0 s.1)))
    step_safe old new (stop_restart number calls torn) s k =
        let safe = meter_of IsFirst old k number s.0 s.1 in
        elim s.2 [
          | inl whole ↦ subst (IsSafeWorld IsFirst) (sym whole) (meter_safe IsFirst old k number (restarted s.0) (restarted_safe IsFirst old.offered old.activations number s.0 safe))
          | inr cut ↦ subst (IsSafeWorld IsFirst) (sym cut) (meter_safe IsFirst old k number (reopened s.0) (reopened_safe IsFirst old.offered old.activations number s.0 safe))
        ]
    step_safe old new (restart_head head) s k = subst (IsSafeWorld IsFirst) (sym s) k
    step_safe old new (turn number) s k =
        subst (IsSafeWorld IsFirst) (sym s.4) (meter_safe IsFirst old k number s.1 (turn_safe IsFirst old.offered old.activations number s.0 s.1 (meter_of IsFirst old k number s.0 s.2) s.3))

    run_safe : (old new : World) (events : List Event) → Run old events new → IsSafeWorld IsFirst old → IsSafeWorld IsFirst new
    run_safe old new [] r k = subst (IsSafeWorld IsFirst) (sym r) k
    run_safe old new (event ∷ events) r k = run_safe r.0 new events r.2 (step_safe old r.0 event r.1 k)

  pub every_step_is_safe : EveryStepIsSafe
  every_step_is_safe old new event s k = step_safe IsFactoryName (λ number name e. e) old new event s k

  -- ---- from the opening world on

  fresh_safe : (opening : World) (number : ℕ) (meter : Meter) (version : HeaderVersion) (block_size capacity : ℕ) (image : List ℕ) → opening.activations ≡ [] → opening.meters number ≡ Some meter
      → IsSetup version block_size capacity image → meter ≡ fresh_meter version block_size capacity image → IsSafeMeter (IsFirstName opening) opening.offered opening.activations number meter
  fresh_safe opening number meter version block_size capacity image none there setup is =
      subst (IsSafeMeter (IsFirstName opening) opening.offered opening.activations number) (sym is) (record {
        block_size = setup.some_block;
        named = record { is_campaign = inl refl; is_release = record { fits = omega arith; none = λ made. refl }; digest_size = length-sha256 image };
        own = inl (meter, there, ap (λ (m : Meter). m.running.name) (sym is));
        running = refl;
        goals = λ goal e. absurd cc;
        aimed = λ goal e. absurd cc;
        newest = λ a held mine. absurd (none_held a (subst (λ (l : List Activation). Contains l a) none held));
        risen = λ goal e. absurd cc;
        cells = λ goal e. absurd cc;
        verified = λ e. absurd cc;
      })

  opening_safe : (opening : World) → IsOpening opening → IsSafeWorld (IsFirstName opening) opening
  opening_safe opening o = world_of (IsFirstName opening) opening (record {
    campaigns = λ campaign image e. let none = o.offered campaign in absurd cc;
    meters = λ number meter e. let m = o.meters number meter e in fresh_safe opening number meter m.0 m.1 m.2 m.3 o.activations e m.4 m.5;
    initiates = subst (All (InitiatesOffered opening.offered)) (sym o.sent) (All-nil (InitiatesOffered opening.offered));
    told = subst (All (TellsOwn (IsFirstName opening) opening.activations)) (sym o.sent) (All-nil (TellsOwn (IsFirstName opening) opening.activations));
    activations = subst (All (IsSafe opening.offered)) (sym o.activations) (All-nil (IsSafe opening.offered));
    done = λ campaign meter e. let none = o.done campaign meter in absurd cc;
    releases = subst (AllPairs NeverFalls) (sym o.activations) (λ earlier later a before within. absurd (omega arith));
  })

  -- a meter is made with a name of no campaign
  first_is_factory : (opening : World) → IsOpening opening → (number : ℕ) (name : Name) → IsFirstName opening number name → name.campaign ≡ factory
  first_is_factory opening o number name f =
      let m = o.meters number f.0 f.1 in
      ap (λ (n : Name). n.campaign) (f.2 ∙ ap (λ (x : Meter). x.running.name) m.5)

  pub every_run_is_safe : AfterEachRun (λ opening w. IsSafeWorld (IsFirstName opening) w)
  every_run_is_safe opening w events o r = run_safe (IsFirstName opening) (first_is_factory opening o) opening w events r (opening_safe opening o)

  -- a first name is a factory's, so that each further step keeps it
  first_weaker : (opening : World) → IsOpening opening → (activations : List Activation) (number : ℕ) (name : Name) → IsOwn (IsFirstName opening) activations number name → IsOwn IsFactoryName activations number name
  first_weaker opening o activations number name (inl f) = inl (first_is_factory opening o number name f)
  first_weaker opening o activations number name (inr had) = inr had

  told_weaker : (opening : World) → IsOpening opening → (activations : List Activation) (d : Datagram) → TellsOwn (IsFirstName opening) activations d → TellsOwn IsFactoryName activations d
  told_weaker opening o activations d h invoke bytes way carries size =
      let own = h invoke bytes way carries size in
      (own.0, own.1, first_weaker opening o activations d.meter own.0 own.2)

  pub every_run_is_safe_on : AfterEachRun (λ opening w. IsSafeWorld IsFactoryName w)
  every_run_is_safe_on opening w events o r =
      let k = every_run_is_safe opening w events o r in
      record {
        sound = k.sound;
        initiates = k.initiates;
        names = record {
          running = λ number meter e. first_weaker opening o w.activations number meter.running.name (k.names.running number meter e);
          told = All-weaker (TellsOwn (IsFirstName opening) w.activations) (TellsOwn IsFactoryName w.activations) (told_weaker opening o w.activations) w.sent k.names.told;
        };
        goals = k.goals;
        activations = k.activations;
        releases = k.releases;
      }

  pub every_run_is_equal : AfterEachRun (λ opening w. ActivationsAreEqual w)
  every_run_is_equal opening w events o r free a h =
      let safe = All-contains (IsSafe w.offered) w.activations a (every_run_is_safe opening w events o r).activations.activations h in
      let same = free a a.name.campaign safe.image h safe.offers (safe.digest ∙ sym safe.named) in
      safe.offers ∙ ap Some (sym same)
