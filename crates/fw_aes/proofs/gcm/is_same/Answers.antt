use Rattle.std.proofs.Common.{◌≡◌, ℕ, List, get_or, ap, refl, arith}
use Rattle.fw_aes.proofs.TagFacts.{lists_same, none_next, same_next}
use Rattle.fw_aes.proofs.gcm.is_same.Goals as goal

pub loop-i-preserved : goal.loop-i-preserved
loop-i-preserved c = record {
  same = same_next c.args.a.now c.args.b.now c.loop-i.difference c.loop-i.i c.loop-i.invariant.same;
  none = none_next c.args.a.now c.args.b.now c.loop-i.difference c.loop-i.i c.loop-i.invariant.none;
}

pub returns : goal.returns
returns c =
    let e : c.loop-i.i ≡ 12 = omega arith in (
      λ t. lists_same c.args.a.now c.args.b.now 12 c.told-a c.told-b (λ j lt. c.loop-i.invariant.same (grind arith) j (omega arith)),
      λ same.
          let zero : c.loop-i.difference ≡ 0 = c.loop-i.invariant.none (λ j lt. ap (λ (xs : List ℕ). get_or xs j 0) same) in
          rw zero refl,
    )
