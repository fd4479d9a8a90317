use Rattle.fw_blocks.proofs.CutLemmas.{other_stays}
use Rattle.fw_blocks.proofs.laws.other_blocks_stay.Goals as goal

pub returns : goal.returns
returns c = other_stays
