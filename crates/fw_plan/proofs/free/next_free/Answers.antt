use Rattle.std.proofs.Common.{sym, ◌∙◌}
use Rattle.fw_plan.proofs.Serials.{fewer_left, reached_end, reached_more}
use Rattle.fw_plan.proofs.free.next_free.Goals as goal

pub loop-free-preserved : goal.loop-free-preserved
loop-free-preserved c =
    reached_more c.args.book.now c.args.serial c.loop-free.free c.after-free.result c.loop-free.invariant (sym c.is_used.ensures ∙ c.loop-free-test.true)
    c.after-free.ensures

pub loop-free-smaller : goal.loop-free-smaller
loop-free-smaller c =
    fewer_left c.args.book.now c.args.serial c.loop-free.free c.after-free.result c.loop-free.invariant (sym c.is_used.ensures ∙ c.loop-free-test.true)
    c.after-free.ensures

pub returns : goal.returns
returns c = reached_end c.args.book.now c.args.serial c.loop-free.free c.loop-free.invariant (sym c.is_used.ensures ∙ c.loop-free-test.false)
