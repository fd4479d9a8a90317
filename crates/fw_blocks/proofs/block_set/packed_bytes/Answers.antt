use Rattle.std.proofs.Common.{◌≡◌, ◌+◌, suc, refl, arith}
use Rattle.fw_blocks.proofs.BitLemmas.{packed_into-more}
use Rattle.fw_blocks.proofs.block_set.packed_bytes.Goals as goal

pub loop-i-preserved : goal.loop-i-preserved
loop-i-preserved c =
    let i = c.loop-i.i in
    let next : i + 1 ≡ suc i = omega arith in
    rw (next, packed_into-more i c.args.set.now, c.in_ok-push.ensures.items, c.loop-i.invariant) (rw c.byte_at.ensures refl)
