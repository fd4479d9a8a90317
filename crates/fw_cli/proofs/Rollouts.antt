-- A rollout of a list, wave after wave, as a rollout.
use Rattle.std.proofs.Common.{◌≡◌, ℕ, Bool, inl, inr, List, [], ◌∷◌, Option, Some, None, refl, sym, subst}
use Rattle.std.specs.Prelude.{OnOk, Result, Ok, Err}
use Rattle.fw_rollout.specs.declared.daemon.HeadDaemon.{HeadDaemon}
use Rattle.fw_rollout.specs.declared.link.Listed.{Listed}
use Rattle.fw_rollout.specs.Acts.{Act}
use Rattle.fw_rollout.specs.Daemon.{IsLed, meters_of}
use Rattle.fw_rollout.specs.Leading.{Leader}
use Rattle.fw_rollout.specs.Plans.{with_meters}
use Rattle.fw_rollout.specs.Rollout.{BeginsRollout, Deed, Does, HasRolled, Lists, MayRollOut, RollsOn, RollsOut, asks, gives_up, makes, no_other}
use Rattle.fw_rollout.proofs.Rollouts.{Rolls, may_roll_on, rolled_on}
use Rattle.fw_cli.specs.Waves.{AsksNow, wave_lists}
use Rattle.fw_cli.specs.declared.waves.Waves.{Waves}

-- the meters whose time has come are one of its lists
pub one_of_waves : {D : Type 0} (waves : Waves) (next : Option ℕ) (daemon : HeadDaemon D) → AsksNow waves next daemon → wave_lists waves.list.now (meters_of daemon)
one_of_waves waves (Some wave) daemon now = inr (wave, now.1)
one_of_waves waves None daemon now = inl now.1

-- a daemon that asks others asks the meters that it has then
pub relisted : {D : Type 0} (honest : D → Bool) (contents : D → List ℕ) (may_leave : D → List ℕ → Type 0) (daemon : HeadDaemon D) (meters : List Listed) (leader : Leader)
    → meters_of daemon ≡ meters → IsLed honest contents may_leave daemon (with_meters meters leader) → IsLed honest contents may_leave daemon (with_meters (meters_of daemon) leader)
relisted honest contents may_leave daemon meters leader is led =
    subst (λ (ms : List Listed). IsLed honest contents may_leave daemon (with_meters ms leader)) (sym is) led

pub relisted_ok : {D T E : Type 0} (honest : D → Bool) (contents : D → List ℕ) (may_leave : D → List ℕ → Type 0) (daemon : HeadDaemon D) (meters : List Listed) (leader : Leader)
    (r : Result T E) → OnOk r (meters_of daemon ≡ meters) → OnOk r (IsLed honest contents may_leave daemon (with_meters meters leader))
    → OnOk r (IsLed honest contents may_leave daemon (with_meters (meters_of daemon) leader))
relisted_ok honest contents may_leave daemon meters leader (Ok value) is led = relisted honest contents may_leave daemon meters leader is led
relisted_ok honest contents may_leave daemon meters leader (Err e) is led = tt

-- ---- a rollout that never comes to ask others is one of any lists

module _ (lists : Lists) where
  does_wider : (old new : Leader) (deed : Deed) → Does no_other old deed new → Does lists old deed new
  does_wider old new (makes step) d = d
  does_wider old new (gives_up meter at) d = d
  does_wider old new (asks meters) d = absurd d.one

  rolls_wider : (start now : Leader) (deeds : List Deed) → RollsOut no_other start deeds now → RollsOut lists start deeds now
  rolls_wider start now [] e = e
  rolls_wider start now (deed ∷ deeds) (before, rolled, does) = (before, rolls_wider start before deeds rolled, does_wider before now deed does)

  rolled_wider : (start now : Leader) (before after : List Act) → HasRolled no_other start before after now → HasRolled lists start before after now
  rolled_wider start now before after rolled =
      record { deeds = rolled.deeds; adds = rolled.adds; rolls_out = rolls_wider start now rolled.deeds rolled.rolls_out }

  may_narrow : (legal : List Act → Type 0) (start : Leader) (before : List Act) → MayRollOut lists legal start before → MayRollOut no_other legal start before
  may_narrow legal start before may = λ deeds now rolled. may deeds now (rolls_wider start now deeds rolled)

  module _ {D : Type 0} (honest : D → Bool) (contents : D → List ℕ) (may_leave : D → List ℕ → Type 0) where
    -- it comes to ask others
    pub asks_on : (old new : HeadDaemon D) (start : Leader) (before acts : List Act) (meters : List Listed)
        (first : RollsOn lists honest contents may_leave start before acts old) → lists meters
        → IsLed honest contents may_leave new (with_meters meters first.now) → RollsOn lists honest contents may_leave start before acts new
    asks_on old new start before acts meters first one led = record {
      now = with_meters meters first.now;
      rolled = rolled_on lists start first.now (with_meters meters first.now) before acts acts first.rolled (record {
        deeds = asks meters ∷ [];
        adds = refl;
        rolls_out = (first.now, refl, record { one = one; sent_all = first.rests.sent_all; others = refl });
      });
      led = led;
      rests = record { sent_all = first.rests.sent_all; told_all = first.rests.told_all };
    }

    -- and goes on with these
    pub wave_on : (old new : HeadDaemon D) (start : Leader) (before acts after : List Act) (first : RollsOn lists honest contents may_leave start before acts old)
        → RollsOn no_other honest contents may_leave first.now acts after new → RollsOn lists honest contents may_leave start before after new
    wave_on old new start before acts after first second = record {
      now = second.now;
      rolled = rolled_on lists start first.now second.now before acts after first.rolled (rolled_wider first.now second.now acts after second.rolled);
      led = second.led;
      rests = second.rests;
    }

    pub wave_err : (old : HeadDaemon D) (start : Leader) (before acts after : List Act) (first : RollsOn lists honest contents may_leave start before acts old)
        → ((now : Leader) × HasRolled no_other first.now acts after now) → (now : Leader) × HasRolled lists start before after now
    wave_err old start before acts after first second =
        (second.0, rolled_on lists start first.now second.0 before acts after first.rolled (rolled_wider first.now second.0 acts after second.1))

    -- a wave begins from there
    pub wave_begins : (old new : HeadDaemon D) (legal later : List Act → Type 0) (before after : List Act) → ((done : List Act) → legal done → later done)
        → BeginsRollout lists honest contents may_leave old legal before → Rolls lists honest contents may_leave old before after new
        → BeginsRollout no_other honest contents may_leave new later after
    wave_begins old new legal later before after law begins rolls =
        let then = rolls begins.leader begins.led begins.rests in
        record {
          leader = then.now;
          led = then.led;
          rests = then.rests;
          may = may_narrow later then.now after (may_roll_on lists legal later begins.leader then.now before after law begins.may then.rolled);
        }
