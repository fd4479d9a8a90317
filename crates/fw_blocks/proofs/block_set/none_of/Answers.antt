use Rattle.std.proofs.Common.{List, ap, ◌∙◌}
use Rattle.fw_blocks.specs.Private.{set_of}
use Rattle.fw_blocks.specs.declared.runs.Run.{Run}
use Rattle.fw_blocks.proofs.RunLemmas.{set_of-none}
use Rattle.fw_blocks.proofs.block_set.none_of.Goals as goal

pub returns-clause-none : goal.returns-clause-none
returns-clause-none c = ap (λ (rs : List Run). set_of c.args.count rs) c.in_ok-runs.ensures.items ∙ set_of-none c.args.count
