use Rattle.std.proofs.Common.{ℕ, Bool, List, ap, ◌∙◌}
use Rattle.fw_blocks.specs.Members.{resized_marks}
use Rattle.fw_store.specs.declared.version.HeaderVersion.TheVariants.{Two}
use Rattle.fw_store.proofs.header.Header.migrated.Goals as goal

pub returns : goal.returns
returns c =
    let h = c.args.self in
    ap (λ (marks : List Bool). record h { version = Two; marks = marks })
    (c.resized.ensures ∙ ap (λ (n : ℕ). resized_marks n h.marks) c.block_limit.ensures.value)
