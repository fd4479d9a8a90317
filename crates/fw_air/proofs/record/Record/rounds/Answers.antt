use Rattle.std.proofs.Common.{◌≡◌, ◌+◌, ◌-◌, ◌∷◌, suc, map, replicate, subst, ap, ◌∙◌, arith, zero}
use Rattle.fw_air.specs.Links.{link_of, queue_of}
use Rattle.fw_air.specs.Rounds.{IsRound}
use Rattle.fw_air.proofs.Fated.{leads_rounds, rounds_led}
use Rattle.fw_air.proofs.Runs.{follows_on, goes_on, leads_on, leads_there}
use Rattle.fw_air.proofs.record.Record.rounds.Goals as goal

pub returns-in_err-round-clause-goes_on : goal.returns-in_err-round-clause-goes_on
returns-in_err-round-clause-goes_on g c = goes_on c.args.self.now c.loop-round.self c.round.new.self c.loop-round.invariant.2.0 c.loop-round.invariant.2.1 c.round.ensures.goes_on

pub loop-round-preserved : goal.loop-round-preserved
loop-round-preserved g c =
    let all = map link_of c.args.links.now in
    let old = c.args.self.now in
    let now = c.loop-round.self in
    let new = c.round.new.self in
    let inv = c.loop-round.invariant in
    let made = c.in_ok-round.ensures.all in
    let left : c.args.rounds - c.loop-round.round ≡ suc (c.args.rounds - (c.loop-round.round + 1)) = omega (arith, c.loop-round-test.true) in
    let is : replicate (c.args.rounds - c.loop-round.round) all ≡ all ∷ replicate (c.args.rounds - (c.loop-round.round + 1)) all = ap (λ n. replicate n all) left in
    let round = subst (λ l. IsRound l now.world made.0 new.world) inv.1 made.2 in (
      c.in_ok-round.ensures.there,
      c.in_ok-round.ensures.links ∙ inv.1,
      (
        _,
        follows_on old now new inv.2.0 made.0 inv.2.1 made.1,
        leads_on IsRound _ _ _ all old.world now.world new.world inv.2.0 made.0 is inv.2.2 round,
        leads_rounds c.args.fates.now c.args.rounds _ _ (map queue_of c.args.links.now) (map queue_of c.loop-round.links) (map queue_of c.round.new.links) old.world now.world new.world inv.2.0 made.0 left inv.2.3 made.3,
      ),
    )

pub returns-clause-all : goal.returns-clause-all
returns-clause-all g c =
    let all = map link_of c.args.links.now in
    let inv = c.loop-round.invariant in
    let none : c.args.rounds - c.loop-round.round ≡ zero = omega (arith, c.loop-round-test.false) in (
      inv.2.0,
      inv.2.1,
      leads_there IsRound _ _ c.args.self.now.world c.loop-round.self.world inv.2.0 (ap (λ n. replicate n all) none) inv.2.2,
      rounds_led c.args.fates.now c.args.rounds _ (map queue_of c.args.links.now) (map queue_of c.loop-round.links) c.args.self.now.world c.loop-round.self.world inv.2.0 none inv.2.3,
    )
