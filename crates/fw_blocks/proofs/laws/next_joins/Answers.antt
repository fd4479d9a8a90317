use Rattle.fw_blocks.proofs.CutLemmas.{next_joins}
use Rattle.fw_blocks.proofs.laws.next_joins.Goals as goal

pub returns : goal.returns
returns c = next_joins
