-- What a head end does in a rollout after what it did.
use Rattle.std.proofs.Common.{◌≡◌, ℕ, Bool, true, false, List, [], ◌∷◌, ◌++◌, map, refl, sym, ap, subst, append_assoc, ◌∙◌}
use Rattle.std.specs.Prelude.{MatchBool}
use Rattle.std.specs.declared.net.socket_addr.SocketAddr.{SocketAddr}
use Rattle.fw_rollout.specs.declared.daemon.HeadDaemon.{HeadDaemon}
use Rattle.fw_rollout.specs.Acts.{Act}
use Rattle.fw_rollout.specs.Daemon.{Begins, GoesOn, IsLed, Rests}
use Rattle.fw_rollout.specs.Leading.{HasLed, Leader, Leading, Leads, MayLead, Step, acts_of}
use Rattle.fw_rollout.specs.Plans.{GivesUpAt}
use Rattle.fw_rollout.specs.Rollout.{BeginsRollout, Deed, HasRolled, Lists, MayRollOut, RollsOn, RollsOut, asks, gives_up, makes, steps_of}
use Rattle.fw_rollout.proofs.Steps.{acts_on}

-- ---- lists of deeds

module _ (lists : Lists) where
  rolls_then : (start middle now : Leader) (first second : List Deed) → RollsOut lists start first middle → RollsOut lists middle second now
      → RollsOut lists start (second ++ first) now
  rolls_then start middle now first [] s e = subst (λ (l : Leader). RollsOut lists start first l) (sym e) s
  rolls_then start middle now first (deed ∷ deeds) s (before, t, one) = (before, rolls_then start middle before first deeds s t, one)

  -- leading is a rollout
  leading_rolls : (start now : Leader) (steps : List Step) → Leading start steps now → RollsOut lists start (map makes steps) now
  leading_rolls start now [] e = e
  leading_rolls start now (step ∷ steps) (before, s, one) = (before, leading_rolls start before steps s, one)

  steps_then : (second first : List Deed) → steps_of (second ++ first) ≡ steps_of second ++ steps_of first
  steps_then [] first = refl
  steps_then (makes step ∷ deeds) first = ap (λ (l : List Step). step ∷ l) (steps_then deeds first)
  steps_then (gives_up meter at ∷ deeds) first = steps_then deeds first
  steps_then (asks meters ∷ deeds) first = steps_then deeds first

  steps_made : (steps : List Step) → steps_of (map makes steps) ≡ steps
  steps_made [] = refl
  steps_made (step ∷ steps) = ap (λ (l : List Step). step ∷ l) (steps_made steps)

  -- what the outside sees of a rollout that goes on
  acts_then : (second first : List Deed) (before after : List Act) → after ≡ acts_of (steps_of first) ++ before
      → acts_of (steps_of (second ++ first)) ++ before ≡ acts_of (steps_of second) ++ after
  acts_then second first before after adds =
      ap (λ (l : List Step). acts_of l ++ before) (steps_then second first)
      ∙ ap (λ (l : List Act). l ++ before) (acts_on (steps_of second) (steps_of first))
      ∙ append_assoc (acts_of (steps_of second)) (acts_of (steps_of first)) before
      ∙ ap (λ (l : List Act). acts_of (steps_of second) ++ l) (sym adds)

  -- ---- what was done

  pub rolled_none : (start : Leader) (before : List Act) → HasRolled lists start before before start
  rolled_none start before = record { deeds = []; adds = refl; rolls_out = refl }

  pub rolled_on : (start middle now : Leader) (before acts after : List Act) → HasRolled lists start before acts middle → HasRolled lists middle acts after now
      → HasRolled lists start before after now
  rolled_on start middle now before acts after first second = record {
    deeds = second.deeds ++ first.deeds;
    adds = second.adds ∙ sym (acts_then second.deeds first.deeds before acts first.adds);
    rolls_out = rolls_then start middle now first.deeds second.deeds first.rolls_out second.rolls_out;
  }

  pub rolled_led : (start now : Leader) (before after : List Act) → Leads start before after now → HasRolled lists start before after now
  rolled_led start now before after leads = record {
    deeds = map makes leads.steps;
    adds = leads.adds ∙ ap (λ (l : List Step). acts_of l ++ before) (sym (steps_made leads.steps));
    rolls_out = leading_rolls start now leads.steps leads.leading;
  }

  -- what a head end may do in a rollout, it may do once it did some of it
  pub may_roll_on : (legal later : List Act → Type 0) (start now : Leader) (before after : List Act) → ((done : List Act) → legal done → later done)
      → MayRollOut lists legal start before → HasRolled lists start before after now → MayRollOut lists later now after
  may_roll_on legal later start now before after law may rolled = λ deeds last rolls.
      subst later (acts_then deeds rolled.deeds before after rolled.adds)
      (law _ (may (deeds ++ rolled.deeds) last (rolls_then start now last rolled.deeds deeds rolled.rolls_out rolls)))

  -- and it may lead
  pub may_lead : (legal : List Act → Type 0) (start : Leader) (before : List Act) → MayRollOut lists legal start before → MayLead legal start before
  may_lead legal start before may = λ steps now leading.
      subst (λ (l : List Step). legal (acts_of l ++ before)) (steps_made steps) (may (map makes steps) now (leading_rolls start now steps leading))

  -- ---- daemons

  module _ {D : Type 0} (honest : D → Bool) (contents : D → List ℕ) (may_leave : D → List ℕ → Type 0) where
    -- from each head end that rests and of which the first daemon is, the head end did this, and the second is its own then
    abbrev pub Rolls : HeadDaemon D → List Act → List Act → HeadDaemon D → Type 0
    Rolls old before after new =
        (start : Leader) → IsLed honest contents may_leave old start → Rests start → RollsOn lists honest contents may_leave start before after new

    pub rolls_none : (daemon : HeadDaemon D) (before : List Act) → Rolls daemon before before daemon
    rolls_none daemon before = λ start led rests. record { now = start; rolled = rolled_none start before; led = led; rests = rests }

    pub rolls_led : (new : HeadDaemon D) (start : Leader) (before acts after : List Act) (old : HeadDaemon D)
        (first : RollsOn lists honest contents may_leave start before acts old) → GoesOn honest contents may_leave first.now acts after new
        → RollsOn lists honest contents may_leave start before after new
    rolls_led new start before acts after old first second = record {
      now = second.now;
      rolled = rolled_on start first.now second.now before acts after first.rolled (rolled_led first.now second.now acts after second.leads);
      led = second.led;
      rests = second.rests;
    }

    pub rolled_err : (start : Leader) (before acts after : List Act) (old : HeadDaemon D) (first : RollsOn lists honest contents may_leave start before acts old)
        → HasLed first.now acts after → (now : Leader) × HasRolled lists start before after now
    rolled_err start before acts after old first second =
        (second.0, rolled_on start first.now second.0 before acts after first.rolled (rolled_led first.now second.0 acts after second.1))

    -- a row is given up, or nothing is done
    rolls_given : (old new : HeadDaemon D) (start : Leader) (before acts : List Act) (address : SocketAddr) (at : ℕ)
        (first : RollsOn lists honest contents may_leave start before acts old) (next : Leader) → GivesUpAt first.now address at next
        → IsLed honest contents may_leave new next → RollsOn lists honest contents may_leave start before acts new
    rolls_given old new start before acts address at first next given led = record {
      now = next;
      rolled = rolled_on start first.now next before acts acts first.rolled
          (record { deeds = gives_up given.meter at ∷ []; adds = refl; rolls_out = (first.now, refl, (address, given, refl)) });
      led = led;
      rests = record {
        sent_all = ap (λ (l : Leader). l.going) given.others ∙ first.rests.sent_all;
        told_all = ap (λ (l : Leader). l.untold) given.others ∙ first.rests.told_all;
      };
    }

    pub rolls_give_up : (b : Bool) (old new : HeadDaemon D) (start : Leader) (before acts : List Act) (address : SocketAddr) (at : ℕ)
        (first : RollsOn lists honest contents may_leave start before acts old)
        → MatchBool b ((next : Leader) × GivesUpAt first.now address at next × IsLed honest contents may_leave new next) (new ≡ old)
        → RollsOn lists honest contents may_leave start before acts new
    rolls_give_up true old new start before acts address at first made = rolls_given old new start before acts address at first made.0 made.1 made.2
    rolls_give_up false old new start before acts address at first same =
        subst (λ (d : HeadDaemon D). RollsOn lists honest contents may_leave start before acts d) (sym same) first

    -- a daemon that begins a rollout, and went on, begins to lead from there
    pub leads_from : (old new : HeadDaemon D) (legal later : List Act → Type 0) (before after : List Act) → ((done : List Act) → legal done → later done)
        → BeginsRollout lists honest contents may_leave old legal before → Rolls old before after new → Begins honest contents may_leave new later after
    leads_from old new legal later before after law begins rolls =
        let then = rolls begins.leader begins.led begins.rests in
        record {
          leader = then.now;
          led = then.led;
          rests = then.rests;
          may = may_lead later then.now after (may_roll_on legal later begins.leader then.now before after law begins.may then.rolled);
        }
