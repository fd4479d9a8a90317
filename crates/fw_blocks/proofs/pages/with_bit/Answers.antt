use Rattle.std.proofs.Common.{arith}
use Rattle.fw_blocks.proofs.PageLemmas.{marked_set}
use Rattle.fw_blocks.proofs.pages.with_bit.Goals as goal

pub returns : goal.returns
returns c = marked_set c.args.words.now c.args.number (omega (arith, c.told-words)) (omega arith)
