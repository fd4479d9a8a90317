-- Moves are a run of the world.
use Rattle.std.proofs.Common.{◌≡◌, ℕ, ◌==◌, if◌then◌else◌, Bool, true, false, not, ◌&&◌, List, [], ◌∷◌, ◌++◌, Option, Some, None, option_map, option_and_then, arith, Contains, refl, sym, ap, subst, ◌∙◌}
use Rattle.std.specs.declared.net.socket_addr.SocketAddr.{SocketAddr}
use Rattle.fw_names.specs.Name.{Campaign}
use Rattle.fw_store.specs.Setup.{IsSetup}
use Rattle.fw_store.specs.declared.version.HeaderVersion.{HeaderVersion}
use Rattle.fw_image.specs.Fresh.{fresh_meter}
use Rattle.fw_image.specs.Meter.{Meter}
use Rattle.fw_meter.specs.Laws.{Faultless, TurnFaultIsStop}
use Rattle.fw_book.specs.Rows.{state_of}
use Rattle.fw_book.specs.Contents.{Contents, Offered, image_in, state_in}
use Rattle.fw_book.specs.Changes.{empty_book}
use Rattle.fw_book.specs.Laws.{ImagesStay, StatesFollowCalls}
use Rattle.fw_head.specs.Head.{Head, IsHead}
use Rattle.fw_head.specs.Laws.{HeadsStay, ReportedByClaim}
use Rattle.fw_daemon.specs.Daemon.{Daemon}
use Rattle.fw_rollout.specs.Leading.{Leader}
use Rattle.fw_rollout.specs.declared.ended.Ended.{Ended}
use Rattle.fw_world.specs.Headline.{ActivationsAreSafe}
use Rattle.fw_world.specs.Laws.{AfterEachRun, AreLess, LacksMarks, MarksMayBeMissing, StateStepsAsWorld}
use Rattle.fw_world.specs.State.{is_done}
use Rattle.fw_world.specs.Step.{Event, IsOpening, Run}
use Rattle.fw_world.specs.World.{World}
use Rattle.fw_field.specs.Field.{Field, IsBeginning, done_by, is_saved, offered_by, saved_by, world_of}
use Rattle.fw_field.specs.Moves.{Move, round, kill_meter, step, open_campaign, cancel_campaign, give_up, ask_others, kill_head, MovesLead, Goes as Move_goes}
use Rattle.fw_field.specs.Laws.{AfterMoves, IsRun, ReportsAreKept, ReportsAreTrue}
use Rattle.fw_field.proofs.Maps.{funext, itself, none_some, run_append, same_world, some_is}
use Rattle.fw_field.proofs.Following.{Goes, IsKept, IsSound, Simulates}
use Rattle.fw_field.proofs.Meters as meters
use Rattle.fw_field.proofs.Heads as heads

-- ---- a beginning

no_image : (number : ℕ) (campaign : Campaign) → image_in (empty_book number) campaign ≡ None
no_image number campaign = go (campaign.head == number)
  where
    go : (b : Bool) → option_map (λ (offer : Offered). offer.image) (if b then None else None) ≡ None
    go true = refl
    go false = refl

no_state : (number : ℕ) (campaign : Campaign) (meter : ℕ) → state_in (empty_book number) campaign meter ≡ None
no_state number campaign meter = go (campaign.head == number)
  where
    go : (b : Bool) → option_and_then (λ (offer : Offered). state_of offer.rows meter) (if b then None else None) ≡ None
    go true = refl
    go false = refl

nothing_contained : {X : Type 0} (x : X) → Contains [] x → ⊥
nothing_contained x (k, within, same) = absurd (omega arith)

module _ (f : Field) (is : IsBeginning f) where
  begins_with : (number : ℕ) (leader : Leader) → f.heads number ≡ Some leader → (leader.head.book ≡ empty_book number) × (leader.synced ≡ empty_book number)
  begins_with number leader there =
      let new = is.heads number leader there in
      (ap (λ (l : Leader). l.head.book) new.1, ap (λ (l : Leader). l.synced) new.1)

  no_offer : (c : Campaign) → (world_of f).offered c ≡ None
  no_offer c = at (f.heads c.head) refl
    where
      at : (found : Option Leader) → f.heads c.head ≡ found → offered_by found c ≡ None
      at None e = refl
      at (Some leader) e = ap (λ (x : Contents). image_in x c) (begins_with c.head leader e).0 ∙ no_image c.head c

  none_done : (c : Campaign) (m : ℕ) → (world_of f).done c m ≡ false
  none_done c m = at (f.heads c.head) refl
    where
      at : (found : Option Leader) → f.heads c.head ≡ found → done_by found c m ≡ false
      at None e = refl
      at (Some leader) e = ap is_done (ap (λ (x : Contents). state_in x c m) (begins_with c.head leader e).0 ∙ no_state c.head c m)

  is_opening : IsOpening (world_of f)
  is_opening = record {
    offered = no_offer;
    sent = is.sent;
    meters = λ number meter e. at number meter (f.meters number) refl e;
    activations = is.activations;
    done = none_done;
  }
    where
      New : Meter → Type 0
      New meter =
          (version : HeaderVersion) × (block_size capacity : ℕ) × (factory : List ℕ) × IsSetup version block_size capacity factory × (meter ≡ fresh_meter version block_size capacity factory)

      at : (number : ℕ) (meter : Meter) (found : Option Daemon) → f.meters number ≡ found → option_map (λ (d : Daemon). d.state.meter) found ≡ Some meter → New meter
      at number meter None there e = absurd (none_some meter e)
      at number meter (Some daemon) there e =
          let m = is.meters number daemon there in
          (m.0, m.1, m.2, m.3, m.4, sym (some_is daemon.state.meter meter e) ∙ m.5.meter_is)

  is_sound : HeadsStay → IsSound f
  is_sound stay_law = record {
    meters = λ number daemon there. let m = is.meters number daemon there in record { meter_is = refl; honest = m.5.honest; sound = m.5.sound };
    rows = λ number leader there.
        let new = is.heads number leader there in
        subst (λ (h : Head). IsHead h) (sym (ap (λ (l : Leader). l.head) new.1)) (stay_law.new number new.0);
    heads = λ number leader there.
        let books = begins_with number leader there in
        subst (λ (b : Contents). IsKept number b leader.synced) (sym books.0) (subst (λ (b : Contents). IsKept number (empty_book number) b) (sym books.1)
        (record { own = refl; synced_own = refl; images = λ c at. refl; done = λ c m at e. e }));
    told = λ ended has done. absurd (nothing_contained ended (subst (λ (xs : List Ended). Contains xs ended) is.told has));
  }

itself_simulates : (f : Field) → Simulates f (world_of f)
itself_simulates f = record { offered = λ c. refl; sent = refl; meters = λ n. refl; activations = refl; done = λ c m e. e }

-- ---- moves

module _ (faultless : Faultless) (turn_law : TurnFaultIsStop) (follow : StatesFollowCalls) (kept : ImagesStay) (done_law : ReportedByClaim) (stay_law : HeadsStay) (steps : StateStepsAsWorld) where
  move_goes : (addresses : ℕ → List SocketAddr) (old new : Field) (move : Move) (w : World) → Simulates old w → IsSound old → Move_goes addresses old move new → Goes w new
  move_goes addresses old new (round number) w s sound m = meters.round_goes faultless turn_law addresses old new w number s sound m
  move_goes addresses old new (kill_meter number) w s sound m = meters.kill_goes faultless turn_law addresses old new w number s sound m
  move_goes addresses old new (step number made) w s sound m = heads.made_goes stay_law steps old new w s sound done_law number made m
  move_goes addresses old new (open_campaign campaign release image meters) w s sound m = heads.open_goes stay_law steps old new w s sound campaign release image meters m
  move_goes addresses old new (cancel_campaign campaign) w s sound m = heads.cancel_goes stay_law steps old new w s sound campaign m
  move_goes addresses old new (give_up number meter) w s sound m = heads.give_up_goes stay_law steps old new w s sound follow kept number meter m
  move_goes addresses old new (ask_others number meters) w s sound m = heads.others_go stay_law steps old new w s sound number meters m
  move_goes addresses old new (kill_head number) w s sound m = heads.kill_goes stay_law steps old new w s sound number m

  moves_go : (addresses : ℕ → List SocketAddr) (old new : Field) (moves : List Move) (w : World) → Simulates old w → IsSound old → MovesLead addresses old moves new → Goes w new
  moves_go addresses old new [] w s sound same =
      let G : Field → Type 0 = λ f. Goes w f in
      subst G (sym same) (record { follows = record { events = []; world = w; run = refl; simulates = s }; sound = sound })
  moves_go addresses old new (move ∷ moves) w s sound (next, m, more) =
      let one = move_goes addresses old next move w s sound m in
      let rest = moves_go addresses next new moves one.follows.world one.follows.simulates one.sound more in
      record {
        follows = record {
          events = one.follows.events ++ rest.follows.events;
          world = rest.follows.world;
          run = run_append w one.follows.world rest.follows.world one.follows.events rest.follows.events one.follows.run rest.follows.run;
          simulates = rest.follows.simulates;
        };
        sound = rest.sound;
      }

  after_moves : (addresses : ℕ → List SocketAddr) (beginning now : Field) (moves : List Move) → IsBeginning beginning → MovesLead addresses beginning moves now → Goes (world_of beginning) now
  after_moves addresses beginning now moves is made = moves_go addresses beginning now moves (world_of beginning) (itself_simulates beginning) (is_sound beginning is stay_law) made

  -- without the marks that the books in memory lack
  pub moves_are_runs : MarksMayBeMissing → AfterMoves IsRun
  moves_are_runs law addresses beginning now moves is made = (is_opening beginning is, less.0, subst R same less.3)
    where
      w : World
      w = (after_moves addresses beginning now moves is made).follows.world

      s : Simulates now w
      s = (after_moves addresses beginning now moves is made).follows.simulates

      missing : Campaign → ℕ → Bool
      missing c m = not ((world_of now).done c m)

      less : (kept : List Event) × AreLess w.sent (after_moves addresses beginning now moves is made).follows.events kept × (less : World) × Run (world_of beginning) kept less × LacksMarks missing w less
      less = law (world_of beginning) w (after_moves addresses beginning now moves is made).follows.events missing (is_opening beginning is) (after_moves addresses beginning now moves is made).follows.run

      R : World → Type 0
      R x = Run (world_of beginning) less.0 x

      keeps : (a b : Bool) → (b ≡ true → a ≡ true) → (a && not (not b)) ≡ b
      keeps true true h = refl
      keeps true false h = refl
      keeps false true h = h refl
      keeps false false h = refl

      same : less.2 ≡ world_of now
      same =
          let all = less.4.same in
          same_world less.2 (world_of now)
          (ap (λ (x : World). x.offered) all ∙ funext w.offered (world_of now).offered s.offered)
          (ap (λ (x : World). x.sent) all ∙ s.sent)
          (ap (λ (x : World). x.meters) all ∙ funext w.meters (world_of now).meters s.meters)
          (ap (λ (x : World). x.activations) all ∙ s.activations)
          (funext less.2.done (world_of now).done (λ c. funext (less.2.done c) ((world_of now).done c)
          (λ m. less.4.done c m ∙ keeps (w.done c m) ((world_of now).done c m) (s.done c m))))

  pub reports_are_kept : AfterMoves (λ beginning now. ReportsAreKept now)
  reports_are_kept addresses beginning now moves is made ended has done = record { saved = saved; done = in_memory (now.heads ended.campaign.head) refl saved }
    where
      sound : IsSound now
      sound = (after_moves addresses beginning now moves is made).sound

      saved : is_saved now ended.campaign ended.meter ≡ true
      saved = sound.told ended has done

      in_memory : (found : Option Leader) → now.heads ended.campaign.head ≡ found → saved_by found ended.campaign ended.meter ≡ true → done_by found ended.campaign ended.meter ≡ true
      in_memory None there e = e
      in_memory (Some leader) there e = (sound.heads ended.campaign.head leader there).done ended.campaign ended.meter (itself ended.campaign.head) e

-- ---- what holds after each run holds after moves

module _ (runs : AfterMoves IsRun) where
  pub after_each : (P : World → World → Type 0) → AfterEachRun P → AfterMoves (λ beginning now. P (world_of beginning) (world_of now))
  after_each P holds addresses beginning now moves is made =
      let run = runs addresses beginning now moves is made in
      holds (world_of beginning) (world_of now) run.1 run.0 run.2

  pub reports_are_true : AfterMoves (λ beginning now. ReportsAreKept now) → AfterEachRun (λ opening w. ActivationsAreSafe w) → AfterMoves (λ beginning now. ReportsAreTrue now)
  reports_are_true kept holds addresses beginning now moves is made ended has done =
      let run = runs addresses beginning now moves is made in
      (holds (world_of beginning) (world_of now) run.1 run.0 run.2).done ended.campaign ended.meter (kept addresses beginning now moves is made ended has done).done
