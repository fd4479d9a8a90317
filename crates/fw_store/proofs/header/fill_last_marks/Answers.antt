use Rattle.std.proofs.Common.{◌≡◌, ℕ, ◌+◌, ◌-◌, ◌*◌, ◌≤◌, length, take, drop, ap, ◌∙◌, refl, arith, length-drop}
use Rattle.std.proofs.lemmas.List.{take_all}
use Rattle.fw_axdr.specs.Bits.{packed}
use Rattle.fw_blocks.specs.Members.{all_marks}
use Rattle.fw_store.specs.Versions.{first_limit}
use Rattle.fw_store.proofs.MarkLemmas.{drop-packed, length-packed}
use Rattle.fw_store.proofs.header.fill_last_marks.Goals as goal

pub returns : goal.returns
returns c =
    let every = all_marks c.args.marks.now in
    let same : first_limit ≡ 8 * 512 = refl in
    let all = c.put_bytes.ensures.size in
    let size : 8 * 64 + length c.args.out.now - 8 * 64 ≡ 1536 = omega arith in
    let count : length (packed (drop first_limit every)) ≤ 1536 = omega (arith, length-packed (drop first_limit every), length-drop first_limit every) in
    c.put_bytes.ensures.value
    ∙ ap (λ (n : ℕ). take n (drop 512 (packed every))) size
    ∙ ap (take 1536) (drop-packed 512 first_limit every same (omega arith))
    ∙ take_all 1536 (packed (drop first_limit every)) count
