use Rattle.fw_blocks.proofs.CutLemmas.{nonempty_below, below_nonempty}
use Rattle.fw_blocks.proofs.laws.nonempty_below_count.Goals as goal

pub returns : goal.returns
returns c = λ block_size i bytes some. (nonempty_below block_size i bytes some, below_nonempty block_size i bytes some)
