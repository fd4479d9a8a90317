use Rattle.std.proofs.Common.{ℕ, ◌-◌, length, set, sym, subst, arith}
use Rattle.fw_axdr.specs.Private.{Keeps}
use Rattle.fw_axdr.proofs.Cuts.{keeps_cut}
use Rattle.fw_axdr.proofs.bits.cut_byte.Goals as goal

pub returns : goal.returns
returns c =
    let k = keeps_cut c.args.bytes.now c.args.len (λ i. omega (arith, c.type_inv.bytes i)) c.requires.room c.requires.some in
    subst (λ (y : ℕ). Keeps c.args.len c.args.bytes.now (set c.args.bytes.now (length c.args.bytes.now - 1) y)) (sym c.first_bits.ensures) k
