use Rattle.std.proofs.Common.{◌∙◌}
use Rattle.fw_capture.proofs.Wholeness.{before_other, before_zero}
use Rattle.fw_capture.proofs.whole.stem.Goals as goal

pub returns-then-last-ne0 : goal.returns-then-last-ne0
returns-then-last-ne0 c = before_other c.loop-left.left.now _ c.in-len1-up.len_at_least c.if-last-ne0.true ∙ c.loop-left.invariant

pub loop-left-preserved : goal.loop-left-preserved
loop-left-preserved c = before_zero c.loop-left.left.now _ c.in-len1-up.len_at_least c.if-last-ne0.false ∙ c.loop-left.invariant
