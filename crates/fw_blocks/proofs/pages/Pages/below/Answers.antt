use Rattle.std.proofs.Common.{◌<◌, length, set, true, sym, ap, ◌∙◌, arith}
use Rattle.fw_blocks.proofs.MemberLemmas.{fill_member, fill_absent}
use Rattle.fw_blocks.proofs.pages.Pages.below.Goals as goal
use Rattle.fw_blocks.proofs.pages.Pages.below.Goals.{then-has, else-has}

pub loop-number-preserved : goal.loop-number-preserved
loop-number-preserved c =
    let marks = c.args.self.now in
    let n = c.loop-number.number in
    let within : n < c.args.count = omega arith in
    let below : n < length marks = omega arith in
    elim c.if-has.branch [
      | then-has w ↦
          w.set-is ∙ w.mark.ensures ∙ ap (λ xs. set xs n true) c.loop-number.invariant
          ∙ fill_member marks n c.args.count within below (sym c.has.ensures ∙ w.if-has.true)
      | else-has w ↦ w.set-is ∙ c.loop-number.invariant ∙ fill_absent marks n c.args.count within below (sym c.has.ensures ∙ w.if-has.false)
    ]
