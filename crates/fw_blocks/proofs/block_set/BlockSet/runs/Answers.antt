use Rattle.fw_blocks.proofs.RunLemmas.{are_runs}
use Rattle.fw_blocks.proofs.block_set.BlockSet.runs.Goals as goal

pub returns : goal.returns
returns c =
    rw (c.as_slice.ensures.value, ← c.self.view_is) (are_runs c.self.inside.count c.self.inside.runs.items c.self.invariant.apart)
