use Rattle.std.proofs.Common.{◌≡◌, ℕ, ◌+◌, ◌-◌, ◌≤◌, ◌++◌, Bool, false, List, length, drop, replicate, sym, ap, ◌∙◌, arith}
use Rattle.std.proofs.lemmas.List.{length-append, take_all}
use Rattle.fw_axdr.specs.Bits.{packed}
use Rattle.fw_blocks.specs.Cuts.{max_blocks}
use Rattle.fw_blocks.specs.Members.{all_marks, resized_marks}
use Rattle.fw_store.specs.Fronts.{front_of}
use Rattle.fw_store.specs.Header.{with_all_marks}
use Rattle.fw_store.specs.Versions.{first_limit, block_limit, version_of}
use Rattle.fw_store.specs.declared.version.HeaderVersion.TheVariants.{One, Two}
use Rattle.fw_store.proofs.MarkLemmas.{all_resized, first_resized, length-resized_marks}
use Rattle.fw_store.proofs.Parts.{header_is, header_one, front_first}
use Rattle.fw_store.proofs.header.Header.to_bytes.Goals as goal

pub returns-in-One-clause-value : goal.returns-in-One-clause-value
returns-in-One-clause-value c =
    let h = c.args.self.now in
    let items = c.put_front.new.bytes in
    let all = with_all_marks h in
    let others = replicate (max_blocks - length h.marks) false in
    let few : length h.marks ≤ max_blocks = omega (arith, c.put_front.ensures.size, length-append h.marks others) in
    let one : h.version ≡ One = sym c.zeros-bytes.ensures.version ∙ ap version_of c.in-One.is in
    sym (take_all 622 items (omega arith))
    ∙ c.put_front.ensures.value
    ∙ front_first h (all_marks h.marks) all.marks (first_resized h.version h.marks few)
    ∙ sym (header_one all one (length-resized_marks (block_limit h.version) h.marks))

pub returns-in-Two-clause-value : goal.returns-in-Two-clause-value
returns-in-Two-clause-value c =
    let h = c.args.self.now in
    let items = c.put_last_marks.new.bytes in
    let all = with_all_marks h in
    let two : h.version ≡ Two = sym c.zeros-bytes.ensures.version ∙ ap version_of c.in-Two.is in
    let others = replicate (max_blocks - length h.marks) false in
    let few : length h.marks ≤ max_blocks = omega (arith, c.put_front-in-Two.ensures.size, length-append h.marks others) in
    let marks : all_marks h.marks ≡ all.marks = all_resized h.marks few ∙ ap (λ version. resized_marks (block_limit version) h.marks) (sym two) in
    sym (take_all (622 + 1536) items (omega arith))
    ∙ c.put_last_marks.ensures
    ∙ ap (λ (front : List ℕ). front ++ packed (drop first_limit (all_marks h.marks)))
    (c.put_front-in-Two.ensures.value ∙ front_first h (all_marks h.marks) all.marks (first_resized h.version h.marks few))
    ∙ ap (λ (marks : List Bool). front_of all ++ packed (drop first_limit marks)) marks
    ∙ sym (header_is all)
