use Rattle.std.proofs.Common.{refl, sym, ◌∙◌, arith}
use Rattle.fw_rollout.specs.Schedule.{links_of}
use Rattle.fw_rollout.proofs.Resending.{none_resent, resends_all, resends_more, resends_none}
use Rattle.fw_rollout.proofs.Rounds.{at_err}
use Rattle.fw_rollout.proofs.Settling.{at_first, fewer_left, later_keys, no_key, none_by_end, none_expired, settle_same, settles_more, some_live_before}
use Rattle.fw_rollout.proofs.Turning.{same_then, waiting_lives}
use Rattle.fw_rollout.proofs.Waiting.{first_key, has_first}
use Rattle.fw_rollout.proofs.schedule.Schedule.give_up.Goals as goal

pub loop-given_up-init : goal.loop-given_up-init
loop-given_up-init c = record {
  timing = refl;
  same = λ s. record { timing = refl; listed = refl; lives = refl };
  schedule = λ s. s;
  settles = λ s place. settle_same c.args.now _;
  resends = λ s. resends_none c.args.now c.args.self.now;
  left = λ s. at_first c.args.now _ 0 _ refl (c.len-most.ensures ∙ c.args.self.now.links.ok.0);
}

pub loop-given_up-preserved : goal.loop-given_up-preserved
loop-given_up-preserved c =
    let was = c.loop-given_up.invariant in
    let cur = c.loop-given_up.self in
    let keys = cur.waiting.keys in
    let until = c.in-Some.until in
    let place = c.in-Some.place in
    let has = has_first until place keys (first_key keys c.first.result (until, place) c.first.ensures.first (sym c.copied.ensures ∙ c.in-Some.is)) in
    record {
      timing = c.in_ok-give_up_at.ensures.timing ∙ was.timing;
      same = λ s. same_then c.args.self.now cur c.give_up_at.new.self (was.same s) (c.in_ok-give_up_at.ensures.same (waiting_lives place until cur (was.schedule s) has));
      schedule = λ s. c.in_ok-give_up_at.ensures.schedule until (was.schedule s) (((was.schedule s).waits place until).0 has);
      settles = λ s. settles_more c.args.now place until c.args.self.now cur c.give_up_at.new.self (was.settles s) (((was.schedule s).waits place until).0 has) c.if-now-until.false
          c.in_ok-give_up_at.ensures.given_up;
      resends = λ s. resends_more c.args.now place until c.args.self.now cur c.give_up_at.new.self (was.resends s) (((was.schedule s).waits place until).0 has) c.if-now-until.false
          c.in_ok-give_up_at.ensures.given_up c.in_ok-give_up_at.ensures.resends;
      left = λ s. fewer_left c.args.now place until _ _ cur c.give_up_at.new.self (((was.schedule s).waits place until).0 has) c.if-now-until.false
          c.in_ok-give_up_at.ensures.given_up (was.left s);
    }

pub returns-in_default-clause-settles : goal.returns-in_default-clause-settles
returns-in_default-clause-settles c = λ s. record {
  each = c.loop-given_up.invariant.settles s;
  all = none_expired c.args.now c.loop-given_up.self (c.loop-given_up.invariant.schedule s)
      (λ place until has. absurd (no_key c.loop-given_up.self.waiting.keys c.first.result c.first.ensures.variant (sym c.copied.ensures ∙ c.in_default.is) (until, place) has));
}

pub returns-then-now-until-clause-settles : goal.returns-then-now-until-clause-settles
returns-then-now-until-clause-settles c = λ s. record {
  each = c.loop-given_up.invariant.settles s;
  all = none_expired c.args.now c.loop-given_up.self (c.loop-given_up.invariant.schedule s)
      (later_keys c.args.now c.in-Some.until c.in-Some.place c.loop-given_up.self.waiting.keys c.first.result c.first.ensures.all_from (sym c.copied.ensures ∙ c.in-Some.is)
      c.if-now-until.true);
}

pub returns-in_err-give_up_at-clause-live : goal.returns-in_err-give_up_at-clause-live
returns-in_err-give_up_at-clause-live c = λ s.
    let was = c.loop-given_up.invariant in
    let cur = c.loop-given_up.self in
    let until = c.in-Some.until in
    let place = c.in-Some.place in
    let has = has_first until place cur.waiting.keys (first_key cur.waiting.keys c.first.result (until, place) c.first.ensures.first (sym c.copied.ensures ∙ c.in-Some.is)) in
    at_err c.from_residual.result (some_live_before c.args.self.now cur place (was.same s) (waiting_lives place until cur (was.schedule s) has))

pub returns-clause-settles : goal.returns-clause-settles
returns-clause-settles c = λ s. record {
  each = c.loop-given_up.invariant.settles s;
  all = none_by_end c.args.now _ _ _ (c.loop-given_up.invariant.left s) (omega arith);
}

pub returns-in_default-clause-resends : goal.returns-in_default-clause-resends
returns-in_default-clause-resends c = λ s.
    resends_all c.args.now c.args.self.now c.loop-given_up.self (c.loop-given_up.invariant.resends s) (none_resent c.args.now _ (none_expired c.args.now c.loop-given_up.self (c.loop-given_up.invariant.schedule s)
    (λ place until has. absurd (no_key c.loop-given_up.self.waiting.keys c.first.result c.first.ensures.variant (sym c.copied.ensures ∙ c.in_default.is) (until, place) has))))

pub returns-then-now-until-clause-resends : goal.returns-then-now-until-clause-resends
returns-then-now-until-clause-resends c = λ s.
    resends_all c.args.now c.args.self.now c.loop-given_up.self (c.loop-given_up.invariant.resends s) (none_resent c.args.now _ (none_expired c.args.now c.loop-given_up.self (c.loop-given_up.invariant.schedule s)
    (later_keys c.args.now c.in-Some.until c.in-Some.place c.loop-given_up.self.waiting.keys c.first.result c.first.ensures.all_from (sym c.copied.ensures ∙ c.in-Some.is) c.if-now-until.true)))

pub returns-clause-resends : goal.returns-clause-resends
returns-clause-resends c = λ s.
    resends_all c.args.now c.args.self.now c.loop-given_up.self (c.loop-given_up.invariant.resends s) (none_resent c.args.now (links_of c.loop-given_up.self) (none_by_end c.args.now (links_of c.loop-given_up.self) _ _ (c.loop-given_up.invariant.left s) (omega arith)))
