use Rattle.std.proofs.Common.{◌≡◌, ℕ, ◌+◌, ◌-◌, ◌++◌, List, length, take, ap, ◌∙◌, arith}
use Rattle.std.proofs.lemmas.List.{length-take-le}
use Rattle.std.proofs.lemmas.Slice.{take-put_mid}
use Rattle.fw_blocks.specs.Members.{all_marks}
use Rattle.fw_store.specs.Versions.{first_limit}
use Rattle.fw_store.proofs.MarkLemmas.{length-packed}
use Rattle.fw_store.proofs.header.put_first_marks.Goals as goal

pub returns-clause-front : goal.returns-clause-front
returns-clause-front c =
    let every = all_marks c.args.marks.now in
    let at = c.args.at in
    let bytes = c.args.bytes.now in
    let part = c.fill_first_marks.new.out in
    let all = c.fill_first_marks.ensures.size in
    let size : length part ≡ 512 =
    omega (arith, ap length c.fill_first_marks.ensures.value, length-packed (take first_limit every), length-take-le first_limit every (omega arith)) in
    take-put_mid at (at + 512 - at) bytes part (at + 512) (omega arith) (omega arith)
    ∙ ap (λ (marks : List ℕ). take at bytes ++ marks) c.fill_first_marks.ensures.value
