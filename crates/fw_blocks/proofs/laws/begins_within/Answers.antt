use Rattle.fw_blocks.proofs.CutLemmas.{below_count, begins_within}
use Rattle.fw_blocks.proofs.laws.begins_within.Goals as goal

pub returns : goal.returns
returns c = λ block_size i size some. (begins_within block_size size i some, below_count block_size size i some)
