use Rattle.std.proofs.Common.{◌≡◌, ℕ, ◌+◌, ◌-◌, ◌*◌, length, take, ap, ◌∙◌, refl, arith}
use Rattle.fw_axdr.specs.Bits.{packed}
use Rattle.fw_blocks.specs.Members.{all_marks}
use Rattle.fw_store.specs.Versions.{first_limit}
use Rattle.fw_store.proofs.MarkLemmas.{take-packed}
use Rattle.fw_store.proofs.header.fill_first_marks.Goals as goal

pub returns-clause-value : goal.returns-clause-value
returns-clause-value c =
    let marks = c.args.marks.now in
    let same : first_limit ≡ 8 * 512 = refl in
    let all = c.put_bytes.ensures.size in
    let size : 8 * 0 + length c.args.out.now - 8 * 0 ≡ 512 = omega arith in
    c.put_bytes.ensures.value
    ∙ ap (λ (n : ℕ). take n (packed (all_marks marks))) size
    ∙ take-packed 512 first_limit (all_marks marks) same (omega arith)
