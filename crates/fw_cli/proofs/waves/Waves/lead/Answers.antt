use Rattle.std.proofs.Common.{◌≡◌, ◌∙◌, ℕ, Bool, IsTrue, Option, Some, None, is_some, false, not, rules, refl, sym, ap, subst}
use Rattle.std.proofs.lemmas.Bool.{false≢true}
use Rattle.std.proofs.lemmas.Result.{err_from_is_err_and}
use Rattle.fw_rollout.proofs.Counted.{counted_on, counted_same, rows_none, told_on, told_same}
use Rattle.fw_rollout.proofs.Rollouts.{rolls_none}
use Rattle.fw_rollout.proofs.Rounds.{at_err}
use Rattle.fw_rollout.specs.Daemon.{meters_of}
use Rattle.fw_rollout.specs.declared.daemon.HeadDaemon.{HeadDaemon}
use Rattle.fw_host.specs.Waves.{listed_in}
use Rattle.fw_cli.specs.Waves.{AsksNow, wave_lists}
use Rattle.fw_cli.specs.declared.waves.Waves.{Waves}
use Rattle.fw_cli.proofs.Rollouts.{asks_on, one_of_waves, wave_begins, wave_err, wave_on}
use Rattle.fw_cli.proofs.waves.Waves.lead.Goals as goal

-- once no row is live, all meters are asked
asks_all : {D : Type 0} (waves : Waves) (daemon : HeadDaemon D) (next : Option ℕ) → is_some next ≡ false → AsksNow waves next daemon → meters_of daemon ≡ listed_in waves.list.now
asks_all waves daemon None none asks = asks.1
asks_all waves daemon (Some wave) none asks = absurd (false≢true (sym none))

pub loop-init : goal.loop-init
loop-init g c = (search rules, search rules, λ honest. rolls_none (wave_lists c.args.self.now.list.now) _ _ _ c.args.daemon.now _, refl, λ done legal. legal, λ honest. told_same _ _ _ _ refl refl, counted_same g.P.Port.tells _ _ _ _ (rows_none g.P.Port.tells _) refl)

pub lead_asked-requires : goal.lead_asked-requires
lead_asked-requires g c = record {
  asks = c.in_ok-next.ensures.asks;
  begins = λ h.
      let was = c.loop.invariant in
      let lists = wave_lists c.args.self.now.list.now in
      let honest : IsTrue (g.P.Port.honest c.args.port.now) = subst (λ (b : Bool). IsTrue b) was.3 h in
      wave_begins lists _ _ _ c.args.daemon.now c.begin_next.new.daemon _ _ _ _ was.4 (c.requires.begins honest)
      (λ start led rests.
      let one = was.2 honest start led rests in
      asks_on lists _ _ _ c.loop.daemon c.begin_next.new.daemon start _ _ _ one (one_of_waves c.args.self.now _ c.begin_next.new.daemon c.in_ok-next.ensures.asks)
      (c.in_ok-next.ensures.led one.now one.led));
}

pub loop-preserved : goal.loop-preserved
loop-preserved g c =
    let was = c.loop.invariant in
    let lists = wave_lists c.args.self.now.list.now in
    let made = c.in_ok-lead_asked.ensures.rolls in (
      search rules,
      search rules,
      λ honest start led rests.
          let then : IsTrue (g.P.Port.honest c.loop.port) = subst (λ (b : Bool). IsTrue b) (sym was.3) honest in
          let one = was.2 honest start led rests in
          let two = asks_on lists _ _ _ c.loop.daemon c.begin_next.new.daemon start _ _ _ one
          (one_of_waves c.args.self.now _ c.begin_next.new.daemon c.in_ok-next.ensures.asks) (c.in_ok-next.ensures.led one.now one.led) in
          wave_on lists _ _ _ c.begin_next.new.daemon c.lead_asked.new.daemon start _ _ _ two (made.rolls then two.now two.led two.rests),
      made.honesty ∙ was.3,
      λ done legal. made.law done (was.4 done legal),
      λ honest.
          let then : IsTrue (g.P.Port.honest c.loop.port) = subst (λ (b : Bool). IsTrue b) (sym was.3) honest in
          told_on _ _ _ _ _ _ (was.5 honest) (told_on _ _ _ _ _ _ (told_same _ _ _ _ refl c.in_ok-next.ensures.counts) (made.counts then)),
      counted_on g.P.Port.tells _ _ _ _ _ _ was.6 (counted_on g.P.Port.tells _ _ _ _ _ _
          (counted_same g.P.Port.tells _ _ _ _ (rows_none g.P.Port.tells _) c.in_ok-next.ensures.counts) made.tells),
    )

-- ---- no wave begins

pub returns-in_err-next-clause-rolls : goal.returns-in_err-next-clause-rolls
returns-in_err-next-clause-rolls g c =
    let was = c.loop.invariant in
    record {
      rolls = λ honest start led rests. search rules;
      rolls_err = λ honest start led rests.
          let one = was.2 honest start led rests in
          at_err c.from_residual.result (one.now, one.rolled);
      counts = λ honest. told_on _ _ _ _ _ _ (was.5 honest) (told_same _ _ _ _ refl c.in_err-next.ensures.counts);
      tells = counted_on g.P.Port.tells _ _ _ _ _ _ was.6
          (counted_same g.P.Port.tells _ _ _ _ (rows_none g.P.Port.tells _) c.in_err-next.ensures.counts);
      honesty = was.3;
      law = was.4;
    }

pub returns-in_err-next-clause-stops : goal.returns-in_err-next-clause-stops
returns-in_err-next-clause-stops g c =
    let passed = err_from_is_err_and c.from_residual.result c.from_residual.ensures.1 in
    rw (passed.1, passed.2) c.in_err-next.ensures.stops

-- ---- all is over

pub returns-then-not-stays-clause-rolls : goal.returns-then-not-stays-clause-rolls
returns-then-not-stays-clause-rolls g c =
    let was = c.loop.invariant in
    let lists = wave_lists c.args.self.now.list.now in
    record {
      rolls = λ honest start led rests.
          let one = was.2 honest start led rests in
          asks_on lists _ _ _ c.loop.daemon c.begin_next.new.daemon start _ _ _ one
          (one_of_waves c.args.self.now _ c.begin_next.new.daemon c.in_ok-next.ensures.asks) (c.in_ok-next.ensures.led one.now one.led);
      rolls_err = λ honest start led rests. tt;
      counts = λ honest. told_on _ _ _ _ _ _ (was.5 honest) (told_same _ _ _ _ refl c.in_ok-next.ensures.counts);
      tells = counted_on g.P.Port.tells _ _ _ _ _ _ was.6
          (counted_same g.P.Port.tells _ _ _ _ (rows_none g.P.Port.tells _) c.in_ok-next.ensures.counts);
      honesty = was.3;
      law = was.4;
    }

pub returns-then-not-stays-clause-asks : goal.returns-then-not-stays-clause-asks
returns-then-not-stays-clause-asks g c =
    asks_all c.args.self.now _ c.in_ok-next.next (c.is_none.ensures ∙ ap not c.if-is_none.true) c.in_ok-next.ensures.asks

-- ---- the head end stopped

pub returns-in_err-lead_asked-clause-rolls : goal.returns-in_err-lead_asked-clause-rolls
returns-in_err-lead_asked-clause-rolls g c =
    let was = c.loop.invariant in
    let lists = wave_lists c.args.self.now.list.now in
    let made = c.in_err-lead_asked.ensures.rolls in
    record {
      rolls = λ honest start led rests. search rules;
      rolls_err = λ honest start led rests.
          let then : IsTrue (g.P.Port.honest c.loop.port) = subst (λ (b : Bool). IsTrue b) (sym was.3) honest in
          let one = was.2 honest start led rests in
          let two = asks_on lists _ _ _ c.loop.daemon c.begin_next.new.daemon start _ _ _ one
          (one_of_waves c.args.self.now _ c.begin_next.new.daemon c.in_ok-next.ensures.asks) (c.in_ok-next.ensures.led one.now one.led) in
          at_err c.from_residual-in_err-lead_asked.result
          (wave_err lists _ _ _ c.begin_next.new.daemon start _ _ _ two (made.rolls_err then two.now two.led two.rests));
      counts = λ honest.
          let then : IsTrue (g.P.Port.honest c.loop.port) = subst (λ (b : Bool). IsTrue b) (sym was.3) honest in
          told_on _ _ _ _ _ _ (was.5 honest) (told_on _ _ _ _ _ _ (told_same _ _ _ _ refl c.in_ok-next.ensures.counts) (made.counts then));
      tells = counted_on g.P.Port.tells _ _ _ _ _ _ was.6 (counted_on g.P.Port.tells _ _ _ _ _ _
          (counted_same g.P.Port.tells _ _ _ _ (rows_none g.P.Port.tells _) c.in_ok-next.ensures.counts) made.tells);
      honesty = made.honesty ∙ was.3;
      law = λ done legal. made.law done (was.4 done legal);
    }

pub returns-in_err-lead_asked-clause-stops : goal.returns-in_err-lead_asked-clause-stops
returns-in_err-lead_asked-clause-stops g c =
    let passed = err_from_is_err_and c.from_residual-in_err-lead_asked.result c.from_residual-in_err-lead_asked.ensures.1 in
    rw (passed.1, passed.2) tt
