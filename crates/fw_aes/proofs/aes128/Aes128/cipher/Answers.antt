use Rattle.std.proofs.Common.{◌≡◌, refl, ap, ◌∙◌, arith, []}
use Rattle.fw_aes.specs.Aes.{after_rounds}
use Rattle.fw_aes.proofs.KeyFacts.{state_first, state_next, state_last}
use Rattle.fw_aes.proofs.aes128.Aes128.cipher.Goals as goal

pub loop-n-init : goal.loop-n-init
loop-n-init c = state_first c.args.self.now c.self.inside.keys c.args.block.now [] _ c.add_round_key-s.result c.self.told c.self.invariant c.self.view_is refl c.add_round_key-s.ensures

pub loop-n-preserved : goal.loop-n-preserved
loop-n-preserved c =
    state_next c.args.self.now c.self.inside.keys c.args.block.now c.loop-n.s [] _ c.round-s.result c.loop-n.n c.self.told c.self.invariant c.self.view_is c.loop-n-test.true
    c.loop-n.invariant refl c.round-s.ensures

pub returns : goal.returns
returns c =
    let e : c.loop-n.n ≡ 9 = omega arith in
    state_last c.args.self.now c.self.inside.keys c.args.block.now c.loop-n.s [] _ c.last_round.result c.self.told c.self.invariant c.self.view_is
    (c.loop-n.invariant ∙ ap (after_rounds c.args.self.now c.args.block.now) e) refl c.last_round.ensures
