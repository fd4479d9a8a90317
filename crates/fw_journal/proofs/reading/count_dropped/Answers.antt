use Rattle.std.proofs.Common.{List, ℕ, subst}
use Rattle.fw_journal.specs.Book.{HasBlocks}
use Rattle.fw_journal.proofs.Blocks.{drops_of}
use Rattle.fw_journal.proofs.reading.count_dropped.Goals as goal

pub returns : goal.returns
returns c = λ records stands ends.
    drops_of c.args.bytes.now records c.args.end c.count_blocks.result stands ends (subst (λ (l : List ℕ). HasBlocks c.count_blocks.result l) c.split_at.ensures.back c.count_blocks.ensures)
