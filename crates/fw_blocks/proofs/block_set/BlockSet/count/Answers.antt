use Rattle.std.proofs.Common.{sym, ap, ◌∙◌, length}
use Rattle.fw_blocks.proofs.RunLemmas.{length-set_of}
use Rattle.fw_blocks.proofs.block_set.BlockSet.count.Goals as goal

pub returns : goal.returns
returns c = sym (length-set_of c.self.inside.count c.self.inside.runs.items) ∙ ap length c.self.view_is
