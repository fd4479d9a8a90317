use Rattle.std.proofs.Common.{sym, arith}
use Rattle.std.proofs.lemmas.List.{length-take}
use Rattle.fw_axdr.specs.Bits.{bits}
use Rattle.fw_axdr.proofs.Cuts.{length_bits, get_cut}
use Rattle.fw_axdr.proofs.bits.Bits.get.Goals as goal

pub bit_at-requires : goal.bit_at-requires
bit_at-requires c =
    let bytes = c.self.inside.bytes.items in
    rw c.as_slice.ensures.value (omega (arith, c.self.invariant.0, length-take c.self.inside.len (bits bytes), length_bits bytes))

pub returns : goal.returns
returns c =
    rw (c.bit_at.ensures, c.as_slice.ensures.value, ← c.self.view_is) (sym (get_cut c.self.inside.bytes.items c.self.inside.len c.args.index c.self.invariant.0 c.if-self-index.false))
