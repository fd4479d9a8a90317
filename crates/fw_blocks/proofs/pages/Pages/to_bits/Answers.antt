use Rattle.std.proofs.Common.{◌≡◌, ℕ, ◌-◌, ◌<◌, ◌≤◌, Bool, false, List, length, take, replicate, sym, ap, ◌∙◌, inl, inr, arith}
use Rattle.std.proofs.lemmas.Bool.{cases_lt}
use Rattle.std.proofs.lemmas.List.{take-take, take-append-le, take_all, length-append}
use Rattle.fw_axdr.specs.Bits.{bits, bytes_for, packed}
use Rattle.fw_blocks.specs.Cuts.{max_blocks}
use Rattle.fw_blocks.specs.Members.{all_marks}
use Rattle.fw_blocks.proofs.BitLemmas.{take-bits}
use Rattle.fw_blocks.proofs.pages.Pages.to_bits.Goals as goal

-- the marks below the lesser of two counts, of which one is that of all the marks
below_both : (marks : List Bool) (count least : ℕ) → least ≤ count → (least < count → length marks ≡ least) → take least marks ≡ take count marks
below_both marks count least within or_all =
    elim (cases_lt least count) [
      | inl less ↦ take_all least marks (omega (arith, or_all less)) ∙ sym (take_all count marks (omega (arith, or_all less)))
      | inr same ↦
          let equal : least ≡ count = omega arith in
          ap (λ n. take n marks) equal
    ]

pub returns : goal.returns
returns c =
    let marks = c.args.self.now in
    let others = replicate (max_blocks - length marks) false in
    let every = all_marks marks in
    let count = c.min-count.result in
    let size : c.div_ceil-size.result ≡ bytes_for count = omega arith in
    let front : c.in_ok-bytes.bytes.items ≡ take (bytes_for count) c.to_bytes-all.result =
    c.in_ok-bytes.ensures.items_if_clones_equal (λ x y same. same) ∙ ap (λ n. take n c.to_bytes-all.result) size in
    let items = front ∙ ap (take (bytes_for count)) c.to_bytes-all.ensures.value in
    c.from_vec.ensures ∙ ap (λ xs. take count (bits xs)) items
    ∙ take-bits (packed every) (bytes_for count) count (omega arith)
    ∙ sym (take-take count (length every) (bits (packed every)) (omega (arith, length-append marks others)))
    ∙ ap (take count) (c.bits_packed.ensures every).1
    ∙ take-append-le count marks others (omega arith)
    ∙ below_both marks c.args.count count (omega arith) (λ less. omega arith)
