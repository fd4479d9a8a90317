use Rattle.std.proofs.Common.{ℕ, false, replicate, ap, ◌∙◌}
use Rattle.fw_blocks.specs.Cuts.{max_blocks}
use Rattle.fw_blocks.specs.Members.{resized_marks}
use Rattle.fw_store.proofs.MarkLemmas.{resized_marks_none}
use Rattle.fw_store.proofs.version.HeaderVersion.no_marks.Goals as goal

pub returns : goal.returns
returns c =
    c.resized.ensures
    ∙ ap (resized_marks c.block_limit.result) c.none.ensures
    ∙ resized_marks_none max_blocks c.block_limit.result c.block_limit.ensures.most
    ∙ ap (λ (n : ℕ). replicate n false) c.block_limit.ensures.value
