use Rattle.std.proofs.Common.{◌≡◌, ◌+◌, ℕ, suc, subst, arith}
use Rattle.fw_journal.specs.Book.{HasBlocks}
use Rattle.fw_journal.proofs.Blocks.{one_more}
use Rattle.fw_journal.proofs.reading.count_blocks.Goals as goal

pub loop-after-preserved : goal.loop-after-preserved
loop-after-preserved c = record {
  room = omega (arith, c.in-Some.ensures.shorter);
  seen = λ n has.
      let more : c.loop-after.count + suc n ≡ c.loop-after.count + 1 + n = omega arith in
      subst (λ (k : ℕ). HasBlocks k c.args.bytes.now) more (c.loop-after.invariant.seen (suc n) (one_more c.loop-after.later.now c.in-Some.after.now n c.in-Some.ensures.found has));
}

pub returns : goal.returns
returns c =
    let same : c.loop-after.count + 0 ≡ c.loop-after.count = omega arith in
    subst (λ (k : ℕ). HasBlocks k c.args.bytes.now) same (c.loop-after.invariant.seen 0 c.in_default.ensures.none)
