use Rattle.std.proofs.Common.{rules, ℕ, Bool, IsTrue, sym, subst, ◌∙◌}
use Rattle.fw_rollout.proofs.Counted.{counted_on, told_on}
use Rattle.fw_rollout.specs.Daemon.{NoneDue}
use Rattle.fw_rollout.proofs.Rounds.{at_err, begins_on, has_led_on, joined}
use Rattle.fw_rollout.proofs.Silences.{silent_then}
use Rattle.fw_rollout.proofs.serving.step_with.Goals as goal

pub receive-requires : goal.receive-requires
receive-requires g c = record {
  begins = λ h.
      let first = c.in_ok-sent.ensures.leads in
      let honest : IsTrue (g.P.Port.honest c.args.port.now) = subst (λ (b : Bool). IsTrue b) first.honesty h in
      begins_on _ _ _ c.args.daemon.now c.send_due.new.daemon _ _ _ _ first.law (c.requires.begins honest) (first.leads honest);
}

pub tell_saved-requires : goal.tell_saved-requires
tell_saved-requires g c = record {
  begins = λ h.
      let first = c.in_ok-sent.ensures.leads in
      let second = c.in_ok-came.ensures.leads in
      let then : IsTrue (g.P.Port.honest c.send_due.new.port) = subst (λ (b : Bool). IsTrue b) second.honesty h in
      let honest : IsTrue (g.P.Port.honest c.args.port.now) = subst (λ (b : Bool). IsTrue b) first.honesty then in
      begins_on _ _ _ c.send_due.new.daemon c.receive.new.daemon _ _ _ _ second.law
      (begins_on _ _ _ c.args.daemon.now c.send_due.new.daemon _ _ _ _ first.law (c.requires.begins honest) (first.leads honest))
      (second.leads then);
  time = λ h.
      let then : IsTrue (g.P.Port.honest c.send_due.new.port) = subst (λ (b : Bool). IsTrue b) c.in_ok-came.ensures.leads.honesty h in
      c.in_ok-came.ensures.time then;
}

pub returns-in_err-sent-clause-leads : goal.returns-in_err-sent-clause-leads
returns-in_err-sent-clause-leads g c =
    let first = c.in_err-sent.ensures.leads in
    record {
      leads = λ honest start led rests. search rules;
      leads_err = λ honest start led rests. at_err c.from_residual.result (first.leads_err honest start led rests);
      counts = first.counts;
      tells = first.tells;
      honesty = first.honesty;
      law = first.law;
    }

pub returns-in_err-came-clause-leads : goal.returns-in_err-came-clause-leads
returns-in_err-came-clause-leads g c =
    let first = c.in_ok-sent.ensures.leads in
    let second = c.in_err-came.ensures.leads in
    record {
      leads = λ honest start led rests. search rules;
      leads_err = λ honest start led rests.
          let then : IsTrue (g.P.Port.honest c.send_due.new.port) = subst (λ (b : Bool). IsTrue b) (sym first.honesty) honest in
          let one = first.leads honest start led rests in
          at_err c.from_residual-in_err-came.result (has_led_on _ _ _ c.send_due.new.daemon start _ _ _ one (second.leads_err then one.now one.led one.rests));
      counts = λ honest.
          let then : IsTrue (g.P.Port.honest c.send_due.new.port) = subst (λ (b : Bool). IsTrue b) (sym first.honesty) honest in
          told_on _ _ _ _ _ _ (first.counts honest) (second.counts then);
      tells = counted_on g.P.Port.tells _ _ _ _ _ _ first.tells second.tells;
      honesty = second.honesty ∙ first.honesty;
      law = λ done legal. second.law done (first.law done legal);
    }

pub returns-in_err-tell_saved-clause-leads : goal.returns-in_err-tell_saved-clause-leads
returns-in_err-tell_saved-clause-leads g c =
    let first = c.in_ok-sent.ensures.leads in
    let second = c.in_ok-came.ensures.leads in
    let third = c.in_err-tell_saved.ensures.leads in
    record {
      leads = λ honest start led rests. search rules;
      leads_err = λ honest start led rests.
          let then : IsTrue (g.P.Port.honest c.send_due.new.port) = subst (λ (b : Bool). IsTrue b) (sym first.honesty) honest in
          let last : IsTrue (g.P.Port.honest c.receive.new.port) = subst (λ (b : Bool). IsTrue b) (sym second.honesty) then in
          let one = first.leads honest start led rests in
          let two = joined _ _ _ c.send_due.new.daemon c.receive.new.daemon start _ _ _ one (second.leads then one.now one.led one.rests) in
          at_err c.from_residual-in_err-tell_saved.result
          (has_led_on _ _ _ c.receive.new.daemon start _ _ _ two (third.leads_err last two.now two.led two.rests));
      counts = λ honest.
          let then : IsTrue (g.P.Port.honest c.send_due.new.port) = subst (λ (b : Bool). IsTrue b) (sym first.honesty) honest in
          let last : IsTrue (g.P.Port.honest c.receive.new.port) = subst (λ (b : Bool). IsTrue b) (sym second.honesty) then in
          told_on _ _ _ _ _ _ (first.counts honest) (told_on _ _ _ _ _ _ (second.counts then) (third.counts last));
      tells = counted_on g.P.Port.tells _ _ _ _ _ _ first.tells (counted_on g.P.Port.tells _ _ _ _ _ _ second.tells third.tells);
      honesty = third.honesty ∙ (second.honesty ∙ first.honesty);
      law = λ done legal. third.law done (second.law done (first.law done legal));
    }

pub returns-clause-leads : goal.returns-clause-leads
returns-clause-leads g c =
    let first = c.in_ok-sent.ensures.leads in
    let second = c.in_ok-came.ensures.leads in
    let third = c.in_ok-tell_saved.ensures.leads in
    record {
      leads = λ honest start led rests.
          let then : IsTrue (g.P.Port.honest c.send_due.new.port) = subst (λ (b : Bool). IsTrue b) (sym first.honesty) honest in
          let last : IsTrue (g.P.Port.honest c.receive.new.port) = subst (λ (b : Bool). IsTrue b) (sym second.honesty) then in
          let one = first.leads honest start led rests in
          let two = joined _ _ _ c.send_due.new.daemon c.receive.new.daemon start _ _ _ one (second.leads then one.now one.led one.rests) in
          joined _ _ _ c.receive.new.daemon c.tell_saved.new.daemon start _ _ _ two (third.leads last two.now two.led two.rests);
      leads_err = λ honest start led rests. tt;
      counts = λ honest.
          let then : IsTrue (g.P.Port.honest c.send_due.new.port) = subst (λ (b : Bool). IsTrue b) (sym first.honesty) honest in
          let last : IsTrue (g.P.Port.honest c.receive.new.port) = subst (λ (b : Bool). IsTrue b) (sym second.honesty) then in
          told_on _ _ _ _ _ _ (first.counts honest) (told_on _ _ _ _ _ _ (second.counts then) (third.counts last));
      tells = counted_on g.P.Port.tells _ _ _ _ _ _ first.tells (counted_on g.P.Port.tells _ _ _ _ _ _ second.tells third.tells);
      honesty = third.honesty ∙ (second.honesty ∙ first.honesty);
      law = λ done legal. third.law done (second.law done (first.law done legal));
    }

-- ---- what is due is saved

pub returns-clause-saves : goal.returns-clause-saves
returns-clause-saves g c = λ honest.
    let then : IsTrue (g.P.Port.honest c.send_due.new.port) = subst (λ (b : Bool). IsTrue b) (sym c.in_ok-sent.ensures.leads.honesty) honest in
    let last : IsTrue (g.P.Port.honest c.receive.new.port) = subst (λ (b : Bool). IsTrue b) (sym c.in_ok-came.ensures.leads.honesty) then in
    subst (λ (now : ℕ). NoneDue g.D.JournalDevice now c.tell_saved.new.daemon) (c.in_ok-tell_saved.ensures.time last) c.in_ok-tell_saved.ensures.saves

-- ---- the meter that is silent

pub returns-clause-silent : goal.returns-clause-silent
returns-clause-silent g c =
    silent_then c.in_ok-came.came c.in_ok-sent.sent.silent c.silent_unless.result c.send_due.new.daemon c.receive.new.daemon c.tell_saved.new.daemon
    c.silent_unless.ensures c.in_ok-sent.ensures.silent c.in_ok-came.ensures.nothing c.in_ok-tell_saved.ensures.knows
