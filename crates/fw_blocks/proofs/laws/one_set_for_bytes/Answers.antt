use Rattle.std.proofs.Common.{List, length, take, sym, ap, ◌∙◌, ℕ}
use Rattle.fw_axdr.specs.Bits.{bits, packed}
use Rattle.fw_blocks.proofs.laws.one_set_for_bytes.Goals as goal

pub returns : goal.returns
returns c = λ a b size same.
    sym (c.bits_packed.ensures a).1 ∙ ap (λ (n : ℕ). take n (bits (packed a))) size ∙ ap (λ (bytes : List ℕ). take (length b) (bits bytes)) same ∙ (c.bits_packed.ensures b).1
