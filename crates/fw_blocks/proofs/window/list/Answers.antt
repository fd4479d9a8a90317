use Rattle.std.proofs.Common.{arith}
use Rattle.fw_blocks.proofs.WindowSearch.{listing_none, listing_more, listing_all, listing_full}
use Rattle.fw_blocks.proofs.window.list.Goals as goal

pub loop-number-init : goal.loop-number-init
loop-number-init c = listing_none c.args.numbers.now c.args.listed c.args.width c.args.from c.args.to c.requires.most

pub loop-number-preserved : goal.loop-number-preserved
loop-number-preserved c =
    listing_more c.loop-number.invariant (omega arith) c.loop-number-test.true (omega (arith, c.loop-number.invariant.most, c.if-len-width.false)) c.requires.fits

pub returns-after-loop-number-clause-lists : goal.returns-after-loop-number-clause-lists
returns-after-loop-number-clause-lists c = listing_all c.loop-number.invariant (omega arith)

pub returns-then-len-width-clause-lists : goal.returns-then-len-width-clause-lists
returns-then-len-width-clause-lists c = listing_full c.loop-number.invariant (omega arith) c.loop-number-test.true c.if-len-width.true
