use Rattle.std.proofs.Common.{◌≤◌, ◌-◌, ◌/◌, length, ⊎_elim}
use Rattle.fw_head_audit.specs.Private.{IsCutBy}
use Rattle.fw_head_audit.proofs.Blocks.{told}
use Rattle.fw_head_audit.proofs.block.is_block_of.Goals as goal

pub returns-clause-none : goal.returns-clause-none
returns-clause-none c is b =
    let image = c.args.image.now in
    let number = c.args.number in
    let value = c.args.value.now in
    ⊎_elim (λ (first : IsCutBy (length value) image number value). c.is_cut.ensures.none c.if-is_cut.false first)
    (λ (later : (1 ≤ number) × IsCutBy ((length image - length value) / number) image number value). c.is_cut-2.ensures.none is later.1)
    (told c.begins_within.ensures c.cut_size.ensures image number value b)
