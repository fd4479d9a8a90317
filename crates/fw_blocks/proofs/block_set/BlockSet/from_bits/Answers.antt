use Rattle.std.proofs.Common.{◌<◌, length, set, true, false, unwrap_or, sym, ap, ◌∙◌, arith}
use Rattle.std.proofs.lemmas.Option.{unwrap_or-slice_get}
use Rattle.fw_blocks.proofs.MemberLemmas.{fill_member, fill_absent}
use Rattle.fw_blocks.proofs.block_set.BlockSet.from_bits.Goals as goal
use Rattle.fw_blocks.proofs.block_set.BlockSet.from_bits.Goals.{then-unwrap_or, else-unwrap_or}

pub loop-number-preserved : goal.loop-number-preserved
loop-number-preserved c =
    let bits = c.args.bits.now in
    let n = c.loop-number.number in
    let within : n < c.args.count = omega arith in
    let below : n < length bits = omega arith in
    let bit = sym (unwrap_or-slice_get bits n false) ∙ sym (c.unwrap_or.ensures ∙ ap (λ o. unwrap_or o false) c.get.ensures) in
    elim c.if-unwrap_or.branch [
      | then-unwrap_or w ↦ w.set-is ∙ w.mark.ensures ∙ ap (λ xs. set xs n true) c.loop-number.invariant ∙ fill_member bits n c.args.count within below (bit ∙ w.if-unwrap_or.true)
      | else-unwrap_or w ↦ w.set-is ∙ c.loop-number.invariant ∙ fill_absent bits n c.args.count within below (bit ∙ w.if-unwrap_or.false)
    ]
