use Rattle.std.proofs.Common.{sym}
use Rattle.fw_axdr.proofs.Cuts.{get_bits}
use Rattle.fw_axdr.proofs.bits.bit_at.Goals as goal

pub returns : goal.returns
returns c = sym (get_bits c.args.bytes.now c.args.index c.requires)
