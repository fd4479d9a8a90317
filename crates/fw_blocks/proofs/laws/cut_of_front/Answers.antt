use Rattle.fw_blocks.proofs.CutLemmas.{cut_of_front}
use Rattle.fw_blocks.proofs.laws.cut_of_front.Goals as goal

pub returns : goal.returns
returns c = cut_of_front
