use Rattle.fw_journal.proofs.Blocks.{count_unique}
use Rattle.fw_journal.proofs.laws.one_count.Goals as goal

pub returns : goal.returns
returns c = count_unique
