use Rattle.std.proofs.Common.{rules, Bool, IsTrue, refl, sym, subst, ◌∙◌}
use Rattle.fw_rollout.proofs.Counted.{counted_on, counted_same, rows_none, told_on, told_same}
use Rattle.fw_rollout.proofs.Rounds.{at_err, begins_on, follows_none, goes_on, has_led_on}
use Rattle.fw_rollout.proofs.serving.serve_head.Goals as goal

pub step_with-requires : goal.step_with-requires
step_with-requires g c = record {
  begins = λ h.
      let was = c.loop.invariant in
      let honest : IsTrue (g.P.Port.honest c.args.port.now) = subst (λ (b : Bool). IsTrue b) was.3 h in
      begins_on _ _ _ c.args.daemon.now c.loop.daemon _ _ _ _ was.4 (c.requires.begins honest) (was.2 honest);
}

pub loop-preserved : goal.loop-preserved
loop-preserved g c =
    let was = c.loop.invariant in
    let made = c.in_ok-silent.ensures.leads in (
      search rules,
      search rules,
      λ honest start led rests.
          let then : IsTrue (g.P.Port.honest c.loop.port) = subst (λ (b : Bool). IsTrue b) (sym was.3) honest in
          goes_on _ _ _ c.loop.daemon c.step_with.new.daemon start _ _ _ (was.2 honest start led rests) (made.leads then),
      made.honesty ∙ was.3,
      λ done legal. made.law done (was.4 done legal),
      λ honest.
          let then : IsTrue (g.P.Port.honest c.loop.port) = subst (λ (b : Bool). IsTrue b) (sym was.3) honest in
          told_on _ _ _ _ _ _ (was.5 honest) (made.counts then),
      counted_on g.P.Port.tells _ _ _ _ _ _ was.6 made.tells,
    )

pub loop-init : goal.loop-init
loop-init g c = (search rules, search rules, λ honest. follows_none _ _ _ c.args.daemon.now _, refl, λ done legal. legal, λ honest. told_same _ _ _ _ refl refl, counted_same g.P.Port.tells _ _ _ _ (rows_none g.P.Port.tells _) refl)

pub returns-in_err-silent-clause-leads : goal.returns-in_err-silent-clause-leads
returns-in_err-silent-clause-leads g c =
    let was = c.loop.invariant in
    let made = c.in_err-silent.ensures.leads in
    record {
      leads = λ honest start led rests. search rules;
      leads_err = λ honest start led rests.
          let then : IsTrue (g.P.Port.honest c.loop.port) = subst (λ (b : Bool). IsTrue b) (sym was.3) honest in
          let one = was.2 honest start led rests in
          at_err c.from_residual.result (has_led_on _ _ _ c.loop.daemon start _ _ _ one (made.leads_err then one.now one.led one.rests));
      counts = λ honest.
          let then : IsTrue (g.P.Port.honest c.loop.port) = subst (λ (b : Bool). IsTrue b) (sym was.3) honest in
          told_on _ _ _ _ _ _ (was.5 honest) (made.counts then);
      tells = counted_on g.P.Port.tells _ _ _ _ _ _ was.6 made.tells;
      honesty = made.honesty ∙ was.3;
      law = λ done legal. made.law done (was.4 done legal);
    }

pub returns-then-not-stays-clause-leads : goal.returns-then-not-stays-clause-leads
returns-then-not-stays-clause-leads g c =
    let was = c.loop.invariant in
    record { leads = was.2; leads_err = λ honest start led rests. tt; counts = was.5; tells = was.6; honesty = was.3; law = was.4 }

-- a meter is silent for too long
pub returns-in-Some-silent-clause-leads : goal.returns-in-Some-silent-clause-leads
returns-in-Some-silent-clause-leads g c =
    let was = c.loop.invariant in
    let made = c.in_ok-silent.ensures.leads in
    record {
      leads = λ honest start led rests.
          let then : IsTrue (g.P.Port.honest c.loop.port) = subst (λ (b : Bool). IsTrue b) (sym was.3) honest in
          goes_on _ _ _ c.loop.daemon c.step_with.new.daemon start _ _ _ (was.2 honest start led rests) (made.leads then);
      leads_err = λ honest start led rests. tt;
      counts = λ honest.
          let then : IsTrue (g.P.Port.honest c.loop.port) = subst (λ (b : Bool). IsTrue b) (sym was.3) honest in
          told_on _ _ _ _ _ _ (was.5 honest) (made.counts then);
      tells = counted_on g.P.Port.tells _ _ _ _ _ _ was.6 made.tells;
      honesty = made.honesty ∙ was.3;
      law = λ done legal. made.law done (was.4 done legal);
    }
