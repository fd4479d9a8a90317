use Rattle.fw_blocks.proofs.CutLemmas.{all_joined}
use Rattle.fw_blocks.proofs.laws.cuts_join.Goals as goal

pub returns : goal.returns
returns c = all_joined
