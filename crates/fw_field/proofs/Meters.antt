-- The moves of meters.
use Rattle.std.proofs.Common.{◌≡◌, ℕ, nat_eq, Bool, true, false, ◌⊎◌, inl, inr, List, [], ◌∷◌, ◌++◌, Option, Some, None, IsTrue, slice_get, Contains, refl, sym, ap, subst, ◌∙◌, eqb-true, append-nil}
use Rattle.std.proofs.lemmas.Bool.{cond-true, cond-false}
use Rattle.std.specs.declared.net.socket_addr.SocketAddr.{SocketAddr}
use Rattle.fw_names.specs.Name.{Name}
use Rattle.fw_blocks.specs.Cuts.{max_blocks}
use Rattle.fw_image.specs.Meter.{Meter, Phase, idle, receiving, verifying, verified, spoilt, switched, reopened, reopened_phase, restarted}
use Rattle.fw_image.specs.State.{State, Turns}
use Rattle.fw_image.specs.Step.{Turn}
use Rattle.fw_meter.specs.Laws.{Faultless, TearsBlock, TurnFaultIsStop}
use Rattle.fw_daemon.specs.Daemon.{Daemon, IsServed, MayAsk}
use Rattle.fw_daemon.specs.Serving.{IsStrange, IsUnserved}
use Rattle.fw_world.specs.World.{Activation, Datagram, World, with_meter}
use Rattle.fw_world.specs.Step.{Event, Run, deliver, restart_meter, stop, stop_restart, turn, activated, replies}
use Rattle.fw_field.specs.Field.{Field, Has}
use Rattle.fw_field.specs.Moves.{HearsAt, IsKilledAt, IsKilledIn, StartsAgain, TakesAs, Tears, TurnsAt, WasSent, WasSentTo, to_meter}
use Rattle.fw_field.proofs.Maps.{itself as number_itself, number_of, run_append}
use Rattle.fw_field.proofs.Following.{Follows, Goes, IsSound, Simulates, meter_moves, meter_of, meter_sound, next_meter}

-- a restart after one that was cut is a restart
again_is : (m : Meter) → restarted (reopened m) ≡ restarted m
again_is m = ap (λ (p : Phase). (let n : Meter = record m { phase = p; limit = max_blocks } in n)) (twice m.phase)
  where
    twice : (p : Phase) → reopened_phase (reopened_phase p) ≡ reopened_phase p
    twice idle = refl
    twice (receiving goal) = refl
    twice (verifying goal taken) = refl
    twice (verified goal) = refl
    twice (spoilt goal) = refl
    twice switched = refl

-- nor does a restart change a meter that has started again, and of which a block was torn then
torn_is : (old new : Meter) (datagram : List ℕ) → old.limit ≡ max_blocks → TearsBlock old datagram new → restarted new ≡ new
torn_is old new datagram most t =
    let receives : new.phase ≡ receiving t.goal = ap (λ (m : Meter). m.phase) t.torn ∙ t.receives in
    let same_phase : reopened_phase new.phase ≡ new.phase = ap reopened_phase receives ∙ sym receives in
    let same_limit : max_blocks ≡ new.limit = sym (ap (λ (m : Meter). m.limit) t.torn ∙ most) in
    λ i. record new { phase = same_phase i; limit = same_limit i }

itself : (daemon : Daemon) (m : Meter) → Has daemon m → Has daemon daemon.state.meter
itself daemon m h = record { meter_is = refl; honest = h.honest; sound = h.sound }

-- ---- a meter that starts again

-- events lead to a world with this meter, in which nothing else changed but what was switched to
record Reaches (w : World) (number : ℕ) (m : Meter) (activations : List Activation) : Type 0 where
  pub events : List Event
  pub world : World
  pub run : Run w events world
  pub offers : world.offered ≡ w.offered
  pub sends : world.sent ≡ w.sent
  pub switches : world.activations ≡ activations
  pub marks : world.done ≡ w.done
  pub here : world.meters number ≡ Some m
  pub away : (q : ℕ) → nat_eq q number ≡ false → world.meters q ≡ w.meters q

module _ (f : Field) (w : World) (number : ℕ) (same_sent : w.sent ≡ f.sent) (activations : List Activation) where
  -- a block is torn: that is as a stop in the datagram that it came in
  tears_one : (old new : Meter) (datagram : List ℕ) → old.limit ≡ max_blocks → WasSentTo f number datagram → TearsBlock old datagram new → Reaches w number old activations
      → Reaches w number new activations
  tears_one old new datagram limit (head, was_sent) t r =
      let d : Datagram = to_meter head number datagram in
      let at = number_of f.sent d was_sent in
      let made : World = record (with_meter r.world number (restarted new)) { activations = r.world.activations ++ [] } in
      record {
        events = r.events ++ stop at.0 0 0 ∷ [];
        world = made;
        run = run_append w r.world made r.events (stop at.0 0 0 ∷ []) r.run (
          made,
          (
            d,
            ap (λ (sent : List Datagram). slice_get sent at.0) (r.sends ∙ same_sent) ∙ at.1,
            refl,
            record {
              before = old;
              after = new;
              name = None;
              there = r.here;
              stops = inr (inl (t, refl));
              new_is = refl;
            },
          ),
          refl,
        );
        offers = r.offers;
        sends = r.sends;
        switches = append-nil r.world.activations ∙ r.switches;
        marks = r.marks;
        here = cond-true (nat_eq number number) (Some (restarted new)) (r.world.meters number) (number_itself number)
            ∙ ap (λ (x : Meter). (let o : Option Meter = Some x in o)) (torn_is old new datagram limit t);
        away = λ q away. cond-false (nat_eq q number) (Some (restarted new)) (r.world.meters q) away ∙ r.away q away;
      }

  tears_all : (old new : Meter) (datagrams : List (List ℕ)) → old.limit ≡ max_blocks → Tears f number old datagrams new → Reaches w number old activations → Reaches w number new activations
  tears_all old new [] limit same r = subst (λ (m : Meter). Reaches w number m activations) (sym same) r
  tears_all old new (datagram ∷ others) limit (was_sent, next, t, more) r =
      tears_all next new others (ap (λ (m : Meter). m.limit) t.torn ∙ limit) more (tears_one old next datagram limit was_sent t r)

  starts_again : (left : Meter) (after : Daemon) (k : StartsAgain f number left after) → Reaches w number (restarted left) activations → Reaches w number k.cut activations
  starts_again left after k r = tears_all (restarted left) k.cut k.datagrams refl k.torn r

module _ (old : Field) (w : World) (number : ℕ) (s : Simulates old w) where
  -- the world with another meter in that place
  abbrev changed : Meter → List Datagram → List Activation → World
  changed m sent activations = record (with_meter w number m) { sent = sent; activations = activations }

  becomes : (after : Daemon) (m : Meter) (sent more_sent : List Datagram) (activations more : List Activation) → after.state.meter ≡ m → more_sent ≡ sent → more ≡ activations
      → Simulates (next_meter old number after sent activations) (changed m more_sent more)
  becomes after m sent more_sent activations more is same_sent same =
      meter_moves old number after sent activations w (changed m more_sent more) s same_sent same refl refl
      (λ q here. cond-true (nat_eq q number) (Some m) (w.meters q) here ∙ ap (λ (x : Meter). (let o : Option Meter = Some x in o)) (sym is))
      (λ q away. cond-false (nat_eq q number) (Some m) (w.meters q) away)

  reached : (after : Daemon) (m : Meter) (activations more : List Activation) → Reaches w number m activations → after.state.meter ≡ m → activations ≡ more
      → Follows w (next_meter old number after old.sent more)
  reached after m activations more r is same = record {
    events = r.events;
    world = r.world;
    run = r.run;
    simulates = meter_moves old number after old.sent more w r.world s (r.sends ∙ s.sent) (r.switches ∙ same) r.offers r.marks
        (λ q here. ap (λ n. r.world.meters n) (eqb-true q number here) ∙ r.here ∙ ap (λ (x : Meter). (let o : Option Meter = Some x in o)) (sym is))
        r.away;
  }

  -- the meter stays as it was
  stays : (before after : Daemon) (sent : List Datagram) (activations : List Activation) → old.meters number ≡ Some before → after.state.meter ≡ before.state.meter
      → w.sent ≡ sent → w.activations ≡ activations → Follows w (next_meter old number after sent activations)
  stays before after sent activations there is same_sent same = record {
    events = [];
    world = w;
    run = refl;
    simulates = meter_moves old number after sent activations w w s same_sent same refl refl
        (λ q here. ap (λ n. w.meters n) (eqb-true q number here) ∙ meter_of old w number before s there ∙ ap (λ (x : Meter). (let o : Option Meter = Some x in o)) (sym is))
        (λ q away. refl);
  }

  module _ (turn_law : TurnFaultIsStop) where
    turns : (before after : Daemon) (sent : List Datagram) (activations : List Activation) → old.meters number ≡ Some before → IsTrue before.state.honest → Turns before.state after.state
        → w.sent ≡ sent → w.activations ≡ activations → Follows w (next_meter old number after sent activations)
    turns before after sent activations there honest t same_sent same = go (turn_law before.state after.state t.faultless honest t.turn)
      where
        m : Meter
        m = after.state.meter

        new : World
        new = changed m w.sent w.activations

        is : Simulates (next_meter old number after sent activations) new
        is = becomes after m sent w.sent activations w.activations refl same_sent same

        at : w.meters number ≡ Some before.state.meter
        at = meter_of old w number before s there

        go : (m ≡ reopened before.state.meter) ⊎ Turn true before.state.meter true m → Follows w (next_meter old number after sent activations)
        go (inl cut) = record {
          events = stop_restart number 0 0 ∷ [];
          world = new;
          run = (new, (before.state.meter, at, inr (ap (λ x. with_meter w number x) cut)), refl);
          simulates = is;
        }
        go (inr made) = record { events = turn number ∷ []; world = new; run = (new, (before.state.meter, m, at, made, refl), refl); simulates = is }

    -- what a kill at rest or in a turn leaves starts again
    at_rest : (before : Daemon) (left : Meter) → old.meters number ≡ Some before
        → (left ≡ before.state.meter) ⊎ ((faultless : Bool) × Turn true before.state.meter faultless left) → Reaches w number (restarted left) w.activations
    at_rest before left there leaves = go leaves
      where
        m : Meter
        m = before.state.meter

        at : w.meters number ≡ Some m
        at = meter_of old w number before s there

        restarts : restarted left ≡ restarted m → Reaches w number (restarted left) w.activations
        restarts same = record {
          events = restart_meter number ∷ [];
          world = with_meter w number (restarted m);
          run = (with_meter w number (restarted m), (m, at, refl), refl);
          offers = refl;
          sends = refl;
          switches = refl;
          marks = refl;
          here = cond-true (nat_eq number number) (Some (restarted m)) (w.meters number) (number_itself number) ∙ ap (λ (x : Meter). (let o : Option Meter = Some x in o)) (sym same);
          away = λ q away. cond-false (nat_eq q number) (Some (restarted m)) (w.meters q) away;
        }

        turned : Turn true m true left → Reaches w number (restarted left) w.activations
        turned made =
            let mid : World = with_meter w number left in
            let new : World = with_meter mid number (restarted left) in
            record {
              events = turn number ∷ restart_meter number ∷ [];
              world = new;
              run = (mid, (m, left, at, made, refl), (new, (left, cond-true (nat_eq number number) (Some left) (w.meters number) (number_itself number), refl), refl));
              offers = refl;
              sends = refl;
              switches = refl;
              marks = refl;
              here = cond-true (nat_eq number number) (Some (restarted left)) (mid.meters number) (number_itself number);
              away = λ q away. cond-false (nat_eq q number) (Some (restarted left)) (mid.meters q) away ∙ cond-false (nat_eq q number) (Some left) (w.meters q) away;
            }

        state : Meter → State
        state x = record before.state { meter = x; honest = true }

        go : (left ≡ m) ⊎ ((faultless : Bool) × Turn true m faultless left) → Reaches w number (restarted left) w.activations
        go (inl same) = restarts (ap restarted same)
        go (inr (faultless, t)) = cut (turn_law (state m) (state left) faultless refl t)
          where
            cut : (left ≡ reopened m) ⊎ Turn true m true left → Reaches w number (restarted left) w.activations
            cut (inl same) = restarts (ap restarted same ∙ again_is m)
            cut (inr made) = turned made

  module _ (faultless_law : Faultless) (turn_law : TurnFaultIsStop) where
    -- a datagram was heard, and its reply sent
    HeardField : Daemon → ℕ → List ℕ → Option (List ℕ) → Option Name → Field
    HeardField after head datagram reply activates =
        next_meter old number after (old.sent ++ replies (to_meter head number datagram) reply) (old.activations ++ activated number activates after.state.meter)

    served : (before after : Daemon) (from : SocketAddr) (datagram : List ℕ) (reply : Option (List ℕ)) (activates : Option Name) (head : ℕ) → old.meters number ≡ Some before → Has before before.state.meter
        → IsServed before datagram reply activates after → Contains old.sent (to_meter head number datagram) → Follows w (HeardField after head datagram reply activates)
    unfolding HeardField
    served before after from datagram reply activates head there has is came =
        let d : Datagram = to_meter head number datagram in
        let at = number_of old.sent d came in
        let m : Meter = after.state.meter in
        let new : World = changed m (w.sent ++ replies d reply) (w.activations ++ activated number activates m) in
        record {
          events = deliver at.0 ∷ [];
          world = new;
          run = (
            new,
            (
              d,
              ap (λ (sent : List Datagram). slice_get sent at.0) s.sent ∙ at.1,
              record {
                before = before.state.meter;
                after = m;
                reply = reply;
                name = activates;
                there = meter_of old w number before s there;
                handles = faultless_law before.state after.state datagram reply activates has.honest has.sound is.answers.handles;
                new_is = refl;
              },
            ),
            refl,
          );
          simulates = becomes after m (old.sent ++ replies d reply) (w.sent ++ replies d reply) (old.activations ++ activated number activates m) (w.activations ++ activated number activates m) refl
              (ap (λ sent. sent ++ replies d reply) s.sent) (ap (λ made. made ++ activated number activates m) s.activations);
        }

    -- nothing is sent and nothing switched to
    silent : (after : Daemon) (head : ℕ) (datagram : List ℕ) → ((sent : List Datagram) (activations : List Activation) → w.sent ≡ sent → w.activations ≡ activations → Follows w (next_meter old number after sent activations))
        → Follows w (HeardField after head datagram None None)
    unfolding HeardField
    silent after head datagram goes = goes (old.sent ++ []) (old.activations ++ []) (s.sent ∙ sym (append-nil old.sent)) (s.activations ∙ sym (append-nil old.activations))

    -- what is not served
    others : (before after : Daemon) (from : SocketAddr) (datagram : List ℕ) (reply : Option (List ℕ)) (head : ℕ) → old.meters number ≡ Some before → Has before before.state.meter
        → IsUnserved before from datagram reply after ⊎ IsStrange before from reply after → Follows w (HeardField after head datagram reply None) × Has after after.state.meter
    others before after from datagram reply head there has (inl u) =
        let state : after.state ≡ before.state = ap (λ (d : Daemon). d.state) u.counted in
        let F : Option (List ℕ) → Type 0 = λ r. Follows w (HeardField after head datagram r None) in
        let H : State → Type 0 = λ x. Has (record after { state = x }) x.meter in (
          subst F (sym u.silent) (silent after head datagram (λ sent activations a b. stays before after sent activations there (ap (λ (x : State). x.meter) state) a b)),
          subst H (sym state) (record { meter_is = refl; honest = has.honest; sound = has.sound }),
        )
    others before after from datagram reply head there has (inr x) =
        let made : Turns before.state after.state = x.goes_on.turns in
        let F : Option (List ℕ) → Type 0 = λ r. Follows w (HeardField after head datagram r None) in (
          subst F (sym x.silent) (silent after head datagram (λ sent activations a b. turns turn_law before after sent activations there has.honest made a b)),
          record { meter_is = refl; honest = made.follows.honesty ∙ has.honest; sound = made.follows.soundness has.sound },
        )

    takes_goes : (before after : Daemon) (from : SocketAddr) (datagram : List ℕ) (reply : Option (List ℕ)) (activates : Option Name) (head : ℕ) (addresses : ℕ → List SocketAddr) → old.meters number ≡ Some before
        → Has before before.state.meter → TakesAs before from datagram reply activates after → (MayAsk before.heads from → WasSent addresses old number head from datagram)
        → Follows w (HeardField after head datagram reply activates) × Has after after.state.meter
    takes_goes before after from datagram reply activates head addresses there has (inl (may, is)) came = (
      served before after from datagram reply activates head there has is (came may).sent,
      record { meter_is = refl; honest = is.answers.follows.honesty ∙ has.honest; sound = is.answers.follows.soundness has.sound },
    )
    takes_goes before after from datagram reply activates head addresses there has (inr (none, other)) came =
        let F : Option Name → Type 0 = λ n. Follows w (HeardField after head datagram reply n) in
        let went = others before after from datagram reply head there has other in
        (subst F (sym none) went.0, went.1)

    heard_at : (addresses : ℕ → List SocketAddr) (new : Field) → IsSound old → HearsAt addresses old number new → Goes w new
    unfolding HeardField
    heard_at addresses new sound h =
        let went = takes_goes h.before h.after h.from h.datagram h.reply h.activates h.head addresses h.there (sound.meters number h.before h.there) h.takes h.came in
        let G : Field → Type 0 = λ f. Goes w f in
        subst G (sym h.new_is) (record {
          follows = went.0;
          sound = meter_sound old number h.after (old.sent ++ replies (to_meter h.head number h.datagram) h.reply) (old.activations ++ activated number h.activates h.after.state.meter) sound went.1;
        })

  turned_at : TurnFaultIsStop → (new : Field) → IsSound old → TurnsAt old number new → Goes w new
  turned_at law new sound t =
      let has = sound.meters number t.before t.there in
      let made = t.turns.turns in
      let G : Field → Type 0 = λ f. Goes w f in
      subst G (sym t.new_is) (record {
        follows = turns law t.before t.after old.sent old.activations t.there has.honest made s.sent s.activations;
        sound = meter_sound old number t.after old.sent old.activations sound (record { meter_is = refl; honest = made.follows.honesty ∙ has.honest; sound = made.follows.soundness has.sound });
      })

  rested_at : TurnFaultIsStop → (new : Field) → IsSound old → IsKilledAt old number new → Goes w new
  rested_at law new sound k =
      let r = starts_again old w number s.sent w.activations k.left k.after k.starts (at_rest law k.before k.left k.there k.leaves) in
      let G : Field → Type 0 = λ f. Goes w f in
      subst G (sym k.new_is) (record {
        follows = reached k.after k.starts.cut w.activations old.activations r k.starts.again.meter_is s.activations;
        sound = meter_sound old number k.after old.sent old.activations sound (itself k.after k.starts.cut k.starts.again);
      })

  -- a kill in a datagram is a stop in it
  in_datagram : (addresses : ℕ → List SocketAddr) (new : Field) (k : IsKilledIn addresses old number new)
      → Reaches w number (restarted k.left) (w.activations ++ activated number k.activates k.left)
  in_datagram addresses new k =
      let d : Datagram = to_meter k.head number k.datagram in
      let at = number_of old.sent d k.came.sent in
      let made : World = record (with_meter w number (restarted k.left)) { activations = w.activations ++ activated number k.activates k.left } in
      record {
        events = stop at.0 0 0 ∷ [];
        world = made;
        run = (
          made,
          (
            d,
            ap (λ (sent : List Datagram). slice_get sent at.0) s.sent ∙ at.1,
            refl,
            record {
              before = k.before.state.meter;
              after = k.left;
              name = k.activates;
              there = meter_of old w number k.before s k.there;
              stops = k.stops;
              new_is = refl;
            },
          ),
          refl,
        );
        offers = refl;
        sends = refl;
        switches = refl;
        marks = refl;
        here = cond-true (nat_eq number number) (Some (restarted k.left)) (w.meters number) (number_itself number);
        away = λ q away. cond-false (nat_eq q number) (Some (restarted k.left)) (w.meters q) away;
      }

  killed_in : (addresses : ℕ → List SocketAddr) (new : Field) → IsSound old → IsKilledIn addresses old number new → Goes w new
  killed_in addresses new sound k =
      let more : List Activation = activated number k.activates k.left in
      let r = starts_again old w number s.sent (w.activations ++ more) k.left k.after k.starts (in_datagram addresses new k) in
      let G : Field → Type 0 = λ f. Goes w f in
      subst G (sym k.new_is) (record {
        follows = reached k.after k.starts.cut (w.activations ++ more) (old.activations ++ more) r k.starts.again.meter_is (ap (λ xs. xs ++ more) s.activations);
        sound = meter_sound old number k.after old.sent (old.activations ++ more) sound (itself k.after k.starts.cut k.starts.again);
      })

module _ (faultless_law : Faultless) (turn_law : TurnFaultIsStop) (addresses : ℕ → List SocketAddr) (old new : Field) (w : World) (number : ℕ) (s : Simulates old w) (sound : IsSound old) where
  pub round_goes : TurnsAt old number new ⊎ HearsAt addresses old number new → Goes w new
  round_goes (inl t) = turned_at old w number s turn_law new sound t
  round_goes (inr h) = heard_at old w number s faultless_law turn_law addresses new sound h

  pub kill_goes : IsKilledAt old number new ⊎ IsKilledIn addresses old number new → Goes w new
  kill_goes (inl k) = rested_at old w number s turn_law new sound k
  kill_goes (inr k) = killed_in old w number s addresses new sound k
