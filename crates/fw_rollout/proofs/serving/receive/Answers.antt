use Rattle.std.proofs.Common.{rules, ◌≡◌, ◌∷◌, Bool, IsTrue, List, take, refl, sym, ap, subst}
use Rattle.std.proofs.lemmas.Bool.{false≢true}
use Rattle.fw_port.specs.Acts.{came, quiet}
use Rattle.fw_rollout.specs.Acts.{Act}
use Rattle.fw_rollout.specs.Counting.{told_in}
use Rattle.fw_rollout.proofs.Counted.{counted_heard, counted_received, counted_same, rows_kept, told_heard, told_received, told_same}
use Rattle.fw_rollout.proofs.Rounds.{at_err, has_led_same, heard, idled, step_of, unheard}
use Rattle.fw_rollout.proofs.serving.receive.Goals as goal

pub returns-in_err-arrival-clause-leads : goal.returns-in_err-arrival-clause-leads
returns-in_err-arrival-clause-leads g c = record {
  leads = λ honest start led rests. search rules;
  leads_err = λ honest start led rests. at_err c.from_residual.result (has_led_same start _ _ (c.in_err-arrival.ensures.closed honest));
  counts = λ honest. told_same _ _ _ _ (ap (λ (acts : List Act). told_in acts) (c.in_err-arrival.ensures.closed honest)) refl;
  tells = counted_same g.P.Port.tells _ _ _ _ (rows_kept g.P.Port.tells _ _ c.receive.ensures.untold) refl;
  honesty = c.receive.ensures.honesty;
  law = c.receive.ensures.law;
}

pub returns-in_default-clause-leads : goal.returns-in_default-clause-leads
returns-in_default-clause-leads g c = record {
  leads = λ honest start led rests.
      let is : g.P.Port.acts c.receive.new.self ≡ quiet ∷ g.P.Port.acts c.args.port.now = search rules in
      idled _ _ _ c.args.daemon.now _ _ is start led rests;
  leads_err = λ honest start led rests. tt;
  counts = λ honest.
      let is : g.P.Port.acts c.receive.new.self ≡ quiet ∷ g.P.Port.acts c.args.port.now = search rules in
      told_same _ _ _ _ (ap (λ (acts : List Act). told_in acts) is) refl;
  tells = counted_same g.P.Port.tells _ _ _ _ (rows_kept g.P.Port.tells _ _ c.receive.ensures.untold) refl;
  honesty = c.receive.ensures.honesty;
  law = c.receive.ensures.law;
}

pub returns-in_err-heard-clause-leads : goal.returns-in_err-heard-clause-leads
returns-in_err-heard-clause-leads g c = record {
  leads = λ honest start led rests. search rules;
  leads_err = λ honest start led rests.
      let is : g.P.Port.acts c.receive.new.self ≡ came c.in-Some.arrival.from (take c.in-Some.arrival.count c.receive.new.buffer) ∷ g.P.Port.acts c.args.port.now = search rules in
      at_err c.from_residual-in_err-heard.result (unheard start c.in-Some.arrival.from _ _ _ is (c.in_err-heard.ensures.listed start led));
  counts = λ honest.
      let is : g.P.Port.acts c.receive.new.self ≡ came c.in-Some.arrival.from (take c.in-Some.arrival.count c.receive.new.buffer) ∷ g.P.Port.acts c.args.port.now = search rules in
      told_received _ _ _ _ _ (ap (λ (acts : List Act). told_in acts) is) c.in_err-heard.ensures.counts_err;
  tells = counted_received g.P.Port.tells _ _ _ _ _ (rows_kept g.P.Port.tells _ _ c.receive.ensures.untold) c.in_err-heard.ensures.counts_err;
  honesty = c.receive.ensures.honesty;
  law = c.receive.ensures.law;
}

pub returns-clause-leads : goal.returns-clause-leads
returns-clause-leads g c = record {
  leads = λ honest start led rests.
      let is : g.P.Port.acts c.receive.new.self ≡ came c.in-Some.arrival.from (take c.in-Some.arrival.count c.receive.new.buffer) ∷ g.P.Port.acts c.args.port.now = search rules in
      let next = c.in_ok-heard.ensures.hears start led in
      heard _ _ _ c.heard.new.self start next.0 c.in-Some.arrival.from _ _ _ is rests (step_of _ _ _ _ _ next.1) next.2;
  leads_err = λ honest start led rests. tt;
  counts = λ honest.
      let is : g.P.Port.acts c.receive.new.self ≡ came c.in-Some.arrival.from (take c.in-Some.arrival.count c.receive.new.buffer) ∷ g.P.Port.acts c.args.port.now = search rules in
      told_heard _ _ _ _ _ (ap (λ (acts : List Act). told_in acts) is) c.in_ok-heard.ensures.counts;
  tells = counted_heard g.P.Port.tells _ _ _ _ _ (rows_kept g.P.Port.tells _ _ c.receive.ensures.untold) c.in_ok-heard.ensures.counts;
  honesty = c.receive.ensures.honesty;
  law = c.receive.ensures.law;
}

-- ---- the time is that of the receive

pub returns-in_default-clause-time : goal.returns-in_default-clause-time
returns-in_default-clause-time g c = λ honest. c.now.ensures (subst (λ (b : Bool). IsTrue b) (sym c.receive.ensures.honesty) honest)

pub returns-clause-time : goal.returns-clause-time
returns-clause-time g c = λ honest. c.now-2.ensures (subst (λ (b : Bool). IsTrue b) (sym c.receive.ensures.honesty) honest)

-- ---- whether a datagram came

pub returns-in_default-clause-came : goal.returns-in_default-clause-came
returns-in_default-clause-came g c = λ honest none.
    let is : g.P.Port.acts c.receive.new.self ≡ quiet ∷ g.P.Port.acts c.args.port.now = search rules in is

pub returns-in_default-clause-nothing : goal.returns-in_default-clause-nothing
returns-in_default-clause-nothing g c = λ none. refl

pub returns-clause-came : goal.returns-clause-came
returns-clause-came g c = λ honest none. absurd (false≢true (sym none))

pub returns-clause-nothing : goal.returns-clause-nothing
returns-clause-nothing g c = λ none. absurd (false≢true (sym none))
