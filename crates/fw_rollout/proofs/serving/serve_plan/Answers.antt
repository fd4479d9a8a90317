use Rattle.std.proofs.Common.{rules, Bool, IsTrue, refl, sym, subst, ◌∙◌}
use Rattle.fw_rollout.specs.Rollout.{no_other}
use Rattle.fw_rollout.proofs.Counted.{counted_on, counted_same, rows_none, told_on, told_same}
use Rattle.fw_rollout.proofs.Rollouts.{leads_from, rolled_err, rolls_give_up, rolls_led, rolls_none}
use Rattle.fw_rollout.proofs.Rounds.{at_err}
use Rattle.fw_rollout.proofs.serving.serve_plan.Goals as goal

pub serve_head-requires : goal.serve_head-requires
serve_head-requires g c = record {
  begins = λ h.
      let was = c.loop.invariant in
      let honest : IsTrue (g.P.Port.honest c.args.port.now) = subst (λ (b : Bool). IsTrue b) was.3 h in
      leads_from no_other _ _ _ c.args.daemon.now c.loop.daemon _ _ _ _ was.4 (c.requires.begins honest) (was.2 honest);
}

pub loop-init : goal.loop-init
loop-init g c = (search rules, search rules, λ honest. rolls_none no_other _ _ _ c.args.daemon.now _, refl, λ done legal. legal, λ honest. told_same _ _ _ _ refl refl, counted_same g.P.Port.tells _ _ _ _ (rows_none g.P.Port.tells _) refl)

pub loop-preserved : goal.loop-preserved
loop-preserved g c =
    let was = c.loop.invariant in
    let made = c.in_ok-at.ensures.leads in (
      search rules,
      search rules,
      λ honest start led rests.
          let then : IsTrue (g.P.Port.honest c.loop.port) = subst (λ (b : Bool). IsTrue b) (sym was.3) honest in
          let one = was.2 honest start led rests in
          let two = rolls_led no_other _ _ _ c.serve_head.new.daemon start _ _ _ c.loop.daemon one (made.leads then one.now one.led one.rests) in
          rolls_give_up no_other _ _ _ _ c.serve_head.new.daemon c.give_up.new.self start _ _ _ _ two (c.in_ok-give_up.ensures.gives_up two.now two.led),
      made.honesty ∙ was.3,
      λ done legal. made.law done (was.4 done legal),
      λ honest.
          let then : IsTrue (g.P.Port.honest c.loop.port) = subst (λ (b : Bool). IsTrue b) (sym was.3) honest in
          told_on _ _ _ _ _ _ (was.5 honest) (told_on _ _ _ _ _ _ (made.counts then) (told_same _ _ _ _ refl c.give_up.ensures.counts)),
      counted_on g.P.Port.tells _ _ _ _ _ _ was.6 (counted_on g.P.Port.tells _ _ _ _ _ _ made.tells
          (counted_same g.P.Port.tells _ _ _ _ (rows_none g.P.Port.tells _) c.give_up.ensures.counts)),
    )

-- ---- the loop stopped

pub returns-in_err-at-clause-rolls : goal.returns-in_err-at-clause-rolls
returns-in_err-at-clause-rolls g c =
    let was = c.loop.invariant in
    let made = c.in_err-at.ensures.leads in
    record {
      rolls = λ honest start led rests. search rules;
      rolls_err = λ honest start led rests.
          let then : IsTrue (g.P.Port.honest c.loop.port) = subst (λ (b : Bool). IsTrue b) (sym was.3) honest in
          let one = was.2 honest start led rests in
          at_err c.from_residual.result (rolled_err no_other _ _ _ start _ _ _ c.loop.daemon one (made.leads_err then one.now one.led one.rests));
      counts = λ honest.
          let then : IsTrue (g.P.Port.honest c.loop.port) = subst (λ (b : Bool). IsTrue b) (sym was.3) honest in
          told_on _ _ _ _ _ _ (was.5 honest) (made.counts then);
      tells = counted_on g.P.Port.tells _ _ _ _ _ _ was.6 made.tells;
      honesty = made.honesty ∙ was.3;
      law = λ done legal. made.law done (was.4 done legal);
    }

-- there was no memory to give up a row
pub returns-in_err-give_up-clause-rolls : goal.returns-in_err-give_up-clause-rolls
returns-in_err-give_up-clause-rolls g c =
    let was = c.loop.invariant in
    let made = c.in_ok-at.ensures.leads in
    record {
      rolls = λ honest start led rests. search rules;
      rolls_err = λ honest start led rests.
          let then : IsTrue (g.P.Port.honest c.loop.port) = subst (λ (b : Bool). IsTrue b) (sym was.3) honest in
          let one = was.2 honest start led rests in
          let two = rolls_led no_other _ _ _ c.serve_head.new.daemon start _ _ _ c.loop.daemon one (made.leads then one.now one.led one.rests) in
          at_err c.from_residual-in_err-give_up.result (two.now, two.rolled);
      counts = λ honest.
          let then : IsTrue (g.P.Port.honest c.loop.port) = subst (λ (b : Bool). IsTrue b) (sym was.3) honest in
          told_on _ _ _ _ _ _ (was.5 honest) (told_on _ _ _ _ _ _ (made.counts then) (told_same _ _ _ _ refl c.give_up.ensures.counts));
      tells = counted_on g.P.Port.tells _ _ _ _ _ _ was.6 (counted_on g.P.Port.tells _ _ _ _ _ _ made.tells
          (counted_same g.P.Port.tells _ _ _ _ (rows_none g.P.Port.tells _) c.give_up.ensures.counts));
      honesty = made.honesty ∙ was.3;
      law = λ done legal. made.law done (was.4 done legal);
    }

-- ---- all is over

pub returns-in_default-clause-rolls : goal.returns-in_default-clause-rolls
returns-in_default-clause-rolls g c =
    let was = c.loop.invariant in
    let made = c.in_ok-at.ensures.leads in
    record {
      rolls = λ honest start led rests.
          let then : IsTrue (g.P.Port.honest c.loop.port) = subst (λ (b : Bool). IsTrue b) (sym was.3) honest in
          let one = was.2 honest start led rests in
          rolls_led no_other _ _ _ c.serve_head.new.daemon start _ _ _ c.loop.daemon one (made.leads then one.now one.led one.rests);
      rolls_err = λ honest start led rests. tt;
      counts = λ honest.
          let then : IsTrue (g.P.Port.honest c.loop.port) = subst (λ (b : Bool). IsTrue b) (sym was.3) honest in
          told_on _ _ _ _ _ _ (was.5 honest) (made.counts then);
      tells = counted_on g.P.Port.tells _ _ _ _ _ _ was.6 made.tells;
      honesty = made.honesty ∙ was.3;
      law = λ done legal. made.law done (was.4 done legal);
    }

pub returns-in_default-clause-over : goal.returns-in_default-clause-over
returns-in_default-clause-over g c = λ now led. rw c.in_default.is at (c.in_ok-at.ensures.over now led)

pub returns-in_default-clause-stays : goal.returns-in_default-clause-stays
returns-in_default-clause-stays g c = rw c.in_default.is at c.in_ok-at.ensures.stays

pub returns-in_default-clause-ran_out : goal.returns-in_default-clause-ran_out
returns-in_default-clause-ran_out g c = rw c.in_default.is at c.in_ok-at.ensures.ran_out
