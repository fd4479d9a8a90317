use Rattle.std.proofs.Common.{◌≡◌}
use Rattle.fw_axdr.specs.Bits.{packed_into}
use Rattle.fw_blocks.proofs.block_set.packed_bytes.Given as goal

abbrev pub invariant-loop-i : goal.invariant-loop-i
invariant-loop-i l = l.bytes.items ≡ packed_into l.i l.set
