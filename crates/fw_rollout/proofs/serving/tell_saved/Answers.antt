use Rattle.std.proofs.Common.{rules, ◌≡◌, Bool, false, IsTrue, List, sym, subst, refl, ◌∙◌}
use Rattle.std.proofs.lemmas.Bool.{false≢true}
use Rattle.fw_rollout.specs.declared.ended.Ended.{Ended}
use Rattle.fw_rollout.specs.Counting.{CountsRows}
use Rattle.fw_rollout.specs.Leading.{IsAboutToTell}
use Rattle.fw_rollout.proofs.Counted.{counted_same, rows_none, told_same}
use Rattle.fw_rollout.proofs.Steps.{may_save}
use Rattle.fw_rollout.proofs.Rounds.{at_err, follows_none, has_led_same, saved}
use Rattle.fw_rollout.proofs.serving.tell_saved.Goals as goal

pub tell_all-requires : goal.tell_all-requires
tell_all-requires g c = λ honest.
    let begins = c.requires.begins honest in
    let made = c.in_ok-saved.ensures.saves begins.leader begins.led begins.rests.told_all in (
      made.0,
      subst (λ (saved : List Ended). IsAboutToTell made.0 saved) (sym c.deref.ensures.value) made.3,
      may_save (g.P.Port.legal c.args.port.now) begins.leader made.0 (g.P.Port.acts c.args.port.now) begins.may made.1,
    )

pub returns-then-not-is_save_due-clause-leads : goal.returns-then-not-is_save_due-clause-leads
returns-then-not-is_save_due-clause-leads g c = record {
  leads = λ honest. follows_none _ _ _ c.args.daemon.now _;
  leads_err = λ honest start led rests. tt;
  counts = λ honest. told_same _ _ _ _ refl refl;
  tells = counted_same g.P.Port.tells _ _ _ _ (rows_none g.P.Port.tells _) refl;
  honesty = refl;
  law = λ done legal. legal;
}

pub returns-in_err-saved-clause-leads : goal.returns-in_err-saved-clause-leads
returns-in_err-saved-clause-leads g c = record {
  leads = λ honest start led rests. search rules;
  leads_err = λ honest start led rests. at_err c.from_residual.result (has_led_same start _ _ refl);
  counts = λ honest. told_same _ _ _ _ refl c.in_err-saved.ensures.counts_err;
  tells = counted_same g.P.Port.tells _ _ _ _ (rows_none g.P.Port.tells _) c.in_err-saved.ensures.counts_err;
  honesty = refl;
  law = λ done legal. legal;
}

pub returns-clause-leads : goal.returns-clause-leads
returns-clause-leads g c = record {
  leads = λ honest start led rests.
      let made = c.in_ok-saved.ensures.saves start led rests.told_all in
      saved _ _ _ c.saved.new.self start made.0 _ _ rests made.1 made.2
      (c.tell_all.ensures.tells honest made.0 (subst (λ (saved : List Ended). IsAboutToTell made.0 saved) (sym c.deref.ensures.value) made.3));
  leads_err = λ honest start led rests. tt;
  counts = λ honest. record {
    rows = c.deref.result.now;
    adds = c.tell_all.ensures.told honest;
    counts = subst (λ (rows : List Ended). CountsRows rows c.args.daemon.now.counts c.saved.new.self.counts) (sym c.deref.ensures.value) c.in_ok-saved.ensures.counts.counts;
  };
  tells = record {
    rows = c.deref.result.now;
    told = c.tell_all.ensures.rows;
    counts = subst (λ (rows : List Ended). CountsRows rows c.args.daemon.now.counts c.saved.new.self.counts) (sym c.deref.ensures.value) c.in_ok-saved.ensures.counts.counts;
  };
  honesty = c.tell_all.ensures.honesty;
  law = c.tell_all.ensures.law;
}

-- ---- what is due is saved

pub returns-then-not-is_save_due-clause-saves : goal.returns-then-not-is_save_due-clause-saves
returns-then-not-is_save_due-clause-saves g c = λ leader led due.
    let off : c.is_save_due.result ≡ false = search rules in
    false≢true (sym off ∙ (c.is_save_due.ensures leader led).1 due)

pub returns-then-not-is_save_due-clause-time : goal.returns-then-not-is_save_due-clause-time
returns-then-not-is_save_due-clause-time g c = c.requires.time

pub returns-clause-saves : goal.returns-clause-saves
returns-clause-saves g c = λ leader led due. due.some (led.unsaved ∙ c.in_ok-saved.ensures.emptied)

pub returns-clause-time : goal.returns-clause-time
returns-clause-time g c = λ honest. c.now.ensures (subst (λ (b : Bool). IsTrue b) (sym c.tell_all.ensures.honesty) honest)

-- ---- what it knows of its meters stays

pub returns-then-not-is_save_due-clause-knows : goal.returns-then-not-is_save_due-clause-knows
returns-then-not-is_save_due-clause-knows g c = record { meters = refl; contacts = refl; plan = refl }

pub returns-in_err-saved-clause-knows : goal.returns-in_err-saved-clause-knows
returns-in_err-saved-clause-knows g c = c.saved.ensures.knows

pub returns-clause-knows : goal.returns-clause-knows
returns-clause-knows g c = c.saved.ensures.knows
