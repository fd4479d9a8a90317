use Rattle.std.proofs.Common.{rules, Bool, IsTrue, refl, sym, subst, ◌∙◌}
use Rattle.fw_rollout.proofs.Counted.{counted_on, counted_same, counted_sent, rows_none, told_on, told_same, told_sent}
use Rattle.fw_rollout.proofs.Steps.{may_tick}
use Rattle.fw_rollout.proofs.Rounds.{at_err, begins_on, follows_none, joined, ticked}
use Rattle.fw_rollout.proofs.serving.send_due.Goals as goal

pub returns-in_err-next-clause-leads : goal.returns-in_err-next-clause-leads
returns-in_err-next-clause-leads g c = record {
  leads = λ honest start led rests. search rules;
  leads_err = λ honest start led rests.
      let one = c.loop.invariant.0 honest start led rests in
      at_err c.from_residual.result (one.now, one.leads);
  counts = λ honest. told_on _ _ _ _ _ _ (c.loop.invariant.3 honest) (told_same _ _ _ _ refl c.in_err-next.ensures.counts_err);
  tells = counted_on g.P.Port.tells _ _ _ _ _ _ c.loop.invariant.4 (counted_same g.P.Port.tells _ _ _ _ (rows_none g.P.Port.tells _) c.in_err-next.ensures.counts_err);
  honesty = c.loop.invariant.1;
  law = c.loop.invariant.2;
}

pub send_all-requires : goal.send_all-requires
send_all-requires g c = λ h.
    let was = c.loop.invariant in
    let honest : IsTrue (g.P.Port.honest c.args.port.now) = subst (λ (b : Bool). IsTrue b) was.1 h in
    let begins = begins_on _ _ _ c.args.daemon.now c.loop.daemon (g.P.Port.legal c.args.port.now) (g.P.Port.legal c.loop.port) _ _ was.2
    (c.requires.begins honest) (was.0 honest) in
    let made = rw c.in-Asks.is at (c.in_ok-next.ensures.ticks begins.leader begins.led begins.rests.sent_all) in
    (made.0, rw c.deref.ensures.value made.3, may_tick (g.P.Port.legal c.loop.port) begins.leader made.0 c.in-Asks.due.meter _ begins.may made.1)

pub returns-in-Nobody-clause-leads : goal.returns-in-Nobody-clause-leads
returns-in-Nobody-clause-leads g c = record {
  leads = λ honest start led rests.
      let one = c.loop.invariant.0 honest start led rests in
      let same = rw c.in-Nobody.is at (c.in_ok-next.ensures.ticks one.now one.led one.rests.sent_all) in
      record { now = one.now; leads = one.leads; led = same; rests = one.rests };
  leads_err = λ honest start led rests. tt;
  counts = λ honest.
      let same = rw c.in-Nobody.is at c.in_ok-next.ensures.counts in
      told_on _ _ _ _ _ _ (c.loop.invariant.3 honest) (told_same _ _ _ _ refl same);
  tells =
      let same = rw c.in-Nobody.is at c.in_ok-next.ensures.counts in
      counted_on g.P.Port.tells _ _ _ _ _ _ c.loop.invariant.4 (counted_same g.P.Port.tells _ _ _ _ (rows_none g.P.Port.tells _) same);
  honesty = c.loop.invariant.1;
  law = c.loop.invariant.2;
}

pub returns-in-Silent-clause-leads : goal.returns-in-Silent-clause-leads
returns-in-Silent-clause-leads g c = record {
  leads = λ honest start led rests.
      let one = c.loop.invariant.0 honest start led rests in
      let same = rw c.in-Silent.is at (c.in_ok-next.ensures.ticks one.now one.led one.rests.sent_all) in
      record { now = one.now; leads = one.leads; led = same; rests = one.rests };
  leads_err = λ honest start led rests. tt;
  counts = λ honest.
      let same = rw c.in-Silent.is at c.in_ok-next.ensures.counts in
      told_on _ _ _ _ _ _ (c.loop.invariant.3 honest) (told_same _ _ _ _ refl same);
  tells =
      let same = rw c.in-Silent.is at c.in_ok-next.ensures.counts in
      counted_on g.P.Port.tells _ _ _ _ _ _ c.loop.invariant.4 (counted_same g.P.Port.tells _ _ _ _ (rows_none g.P.Port.tells _) same);
  honesty = c.loop.invariant.1;
  law = c.loop.invariant.2;
}

pub returns-clause-leads : goal.returns-clause-leads
returns-clause-leads g c = record {
  leads = c.loop.invariant.0;
  leads_err = λ honest start led rests. tt;
  counts = c.loop.invariant.3;
  tells = c.loop.invariant.4;
  honesty = c.loop.invariant.1;
  law = c.loop.invariant.2;
}

pub loop-init : goal.loop-init
loop-init g c = (λ honest. follows_none _ _ _ c.args.daemon.now _, refl, λ done legal. legal, λ honest. told_same _ _ _ _ refl refl, counted_same g.P.Port.tells _ _ _ _ (rows_none g.P.Port.tells _) refl)

pub loop-preserved : goal.loop-preserved
loop-preserved g c =
    let was = c.loop.invariant in
    let sent = rw c.in-Asks.is at c.in_ok-next.ensures.counts in (
      λ honest start led rests.
          let then : IsTrue (g.P.Port.honest c.loop.port) = subst (λ (b : Bool). IsTrue b) (sym was.1) honest in
          let one = was.0 honest start led rests in
          let made = rw c.in-Asks.is at (c.in_ok-next.ensures.ticks one.now one.led one.rests.sent_all) in
          joined _ _ _ c.loop.daemon c.due.new.self start _ _ _ one
          (ticked _ _ _ c.due.new.self one.now made.0 c.in-Asks.due.meter _ _ one.rests made.1 made.2 (c.send_all.ensures.sends then made.0 (rw c.deref.ensures.value made.3))),
      c.send_all.ensures.honesty ∙ was.1,
      λ done legal. c.send_all.ensures.law done (was.2 done legal),
      λ honest.
          let then : IsTrue (g.P.Port.honest c.loop.port) = subst (λ (b : Bool). IsTrue b) (sym was.1) honest in
          told_on _ _ _ _ _ _ (was.3 honest) (told_sent _ _ _ _ _ (c.send_all.ensures.told then) sent),
      counted_on g.P.Port.tells _ _ _ _ _ _ was.4 (counted_sent g.P.Port.tells _ _ _ _ _ c.send_all.ensures.untold sent),
    )

-- a row waits, and the next one is looked at
pub loop-preserved-in-Waits : goal.loop-preserved-in-Waits
loop-preserved-in-Waits g c =
    let was = c.loop.invariant in
    let same = rw c.in-Waits.is at c.in_ok-next.ensures.counts in (
      λ honest start led rests.
          let one = was.0 honest start led rests in
          let led_so = rw c.in-Waits.is at (c.in_ok-next.ensures.ticks one.now one.led one.rests.sent_all) in
          record { now = one.now; leads = one.leads; led = led_so; rests = one.rests },
      was.1,
      was.2,
      λ honest. told_on _ _ _ _ _ _ (was.3 honest) (told_same _ _ _ _ refl same),
      counted_on g.P.Port.tells _ _ _ _ _ _ was.4 (counted_same g.P.Port.tells _ _ _ _ (rows_none g.P.Port.tells _) same),
    )

-- ---- the meter that is silent

pub returns-in-Silent-clause-silent : goal.returns-in-Silent-clause-silent
returns-in-Silent-clause-silent g c = (c.args.now, rw c.in-Silent.is at c.in_ok-next.ensures.silent)
