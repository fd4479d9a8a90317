use Rattle.std.proofs.Common.{◌≡◌, ◌+◌, ◌∷◌, [], refl, ◌∙◌, arith, replicate}
use Rattle.std.proofs.lemmas.List.{length-set}
use Rattle.fw_aes.proofs.KeyFacts.{constant_at, expanded_all, expanded_first, expanded_more, first_of}
use Rattle.fw_aes.proofs.aes128.Aes128.new.Goals as goal

pub loop-n-init : goal.loop-n-init
loop-n-init c = record { length = refl; expanded = expanded_first c.args.key.now (c.args.key.now ∷ replicate 10 (replicate 16 0)) refl }

pub loop-n-preserved : goal.loop-n-preserved
loop-n-preserved c = record {
  length = length-set c.loop-n.keys (c.loop-n.n + 1) c.next_key.result ∙ c.loop-n.invariant.length;
  expanded = expanded_more c.args.key.now c.loop-n.keys c.loop-n.n [] _ c.next_key.result _ c.loop-n.invariant.length c.loop-n-test.true c.loop-n.invariant.expanded refl
      (constant_at c.loop-n.n c.loop-n-test.true) c.next_key.ensures;
}

pub invariant_of-result : goal.invariant_of-result
invariant_of-result c =
    let e : c.loop-n.n ≡ 10 = omega arith in
    expanded_all c.args.key.now c.loop-n.keys (λ k lt. c.loop-n.invariant.expanded k (omega arith))

pub returns : goal.returns
returns c = let e : c.loop-n.n ≡ 10 = omega arith in first_of c.args.key.now c.loop-n.keys (λ k lt. c.loop-n.invariant.expanded k (omega arith))
