use Rattle.std.proofs.Common.{◌≡◌, ◌∷◌, ℕ, zero, suc, ◌<◌, List, refl, ap, ◌∙◌, arith, [], get_or}
use Rattle.fw_aes.specs.Aes.{after_rounds, cipher}
use Rattle.fw_aes.proofs.KeyFacts.{state_first, state_last, state_next}
use Rattle.fw_aes.proofs.aes128.Aes128.cipher_four.Goals as goal

-- four values that are right at their places
four : (f : ℕ → List ℕ) (a b c d : List ℕ) → a ≡ f 0 → b ≡ f 1 → c ≡ f 2 → d ≡ f 3 → (i : ℕ) → i < 4 → get_or (a ∷ b ∷ c ∷ d ∷ []) i [] ≡ f i
four f a b c d ea eb ec ed zero lt = ea
four f a b c d ea eb ec ed (suc zero) lt = eb
four f a b c d ea eb ec ed (suc (suc zero)) lt = ec
four f a b c d ea eb ec ed (suc (suc (suc zero))) lt = ed
four f a b c d ea eb ec ed (suc (suc (suc (suc i)))) lt = absurd (omega arith)

pub loop-n-init : goal.loop-n-init
loop-n-init c = record {
  a = state_first c.args.self.now c.self.inside.keys (get_or c.args.blocks.now 0 []) [] _ c.add_round_key-a.result c.self.told c.self.invariant c.self.view_is refl c.add_round_key-a.ensures;
  b = state_first c.args.self.now c.self.inside.keys (get_or c.args.blocks.now 1 []) [] _ c.add_round_key-b.result c.self.told c.self.invariant c.self.view_is refl c.add_round_key-b.ensures;
  c = state_first c.args.self.now c.self.inside.keys (get_or c.args.blocks.now 2 []) [] _ c.add_round_key-c.result c.self.told c.self.invariant c.self.view_is refl c.add_round_key-c.ensures;
  d = state_first c.args.self.now c.self.inside.keys (get_or c.args.blocks.now 3 []) [] _ c.add_round_key-d.result c.self.told c.self.invariant c.self.view_is refl c.add_round_key-d.ensures;
}

pub loop-n-preserved : goal.loop-n-preserved
loop-n-preserved c = record {
  a = state_next c.args.self.now c.self.inside.keys (get_or c.args.blocks.now 0 []) c.loop-n.a [] _ c.round-a.result c.loop-n.n c.self.told c.self.invariant c.self.view_is
      c.loop-n-test.true c.loop-n.invariant.a refl c.round-a.ensures;
  b = state_next c.args.self.now c.self.inside.keys (get_or c.args.blocks.now 1 []) c.loop-n.b [] _ c.round-b.result c.loop-n.n c.self.told c.self.invariant c.self.view_is
      c.loop-n-test.true c.loop-n.invariant.b refl c.round-b.ensures;
  c = state_next c.args.self.now c.self.inside.keys (get_or c.args.blocks.now 2 []) c.loop-n.c [] _ c.round-c.result c.loop-n.n c.self.told c.self.invariant c.self.view_is
      c.loop-n-test.true c.loop-n.invariant.c refl c.round-c.ensures;
  d = state_next c.args.self.now c.self.inside.keys (get_or c.args.blocks.now 3 []) c.loop-n.d [] _ c.round-d.result c.loop-n.n c.self.told c.self.invariant c.self.view_is
      c.loop-n-test.true c.loop-n.invariant.d refl c.round-d.ensures;
}

pub returns : goal.returns
returns c =
    let e : c.loop-n.n ≡ 9 = omega arith in
    let key : List ℕ = c.args.self.now in
    four (λ i. cipher key (get_or c.args.blocks.now i [])) c.last_round.result c.last_round-2.result c.last_round-3.result c.last_round-4.result
    (state_last key c.self.inside.keys (get_or c.args.blocks.now 0 []) c.loop-n.a [] _ c.last_round.result c.self.told c.self.invariant c.self.view_is
    (c.loop-n.invariant.a ∙ ap (after_rounds key (get_or c.args.blocks.now 0 [])) e) refl c.last_round.ensures)
    (state_last key c.self.inside.keys (get_or c.args.blocks.now 1 []) c.loop-n.b [] _ c.last_round-2.result c.self.told c.self.invariant c.self.view_is
    (c.loop-n.invariant.b ∙ ap (after_rounds key (get_or c.args.blocks.now 1 [])) e) refl c.last_round-2.ensures)
    (state_last key c.self.inside.keys (get_or c.args.blocks.now 2 []) c.loop-n.c [] _ c.last_round-3.result c.self.told c.self.invariant c.self.view_is
    (c.loop-n.invariant.c ∙ ap (after_rounds key (get_or c.args.blocks.now 2 [])) e) refl c.last_round-3.ensures)
    (state_last key c.self.inside.keys (get_or c.args.blocks.now 3 []) c.loop-n.d [] _ c.last_round-4.result c.self.told c.self.invariant c.self.view_is
    (c.loop-n.invariant.d ∙ ap (after_rounds key (get_or c.args.blocks.now 3 [])) e) refl c.last_round-4.ensures)
