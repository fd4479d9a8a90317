use Rattle.std.proofs.Common.{◌≡◌, ◌-◌, ◌++◌, false, take, replicate}
use Rattle.fw_blocks.proofs.block_set.BlockSet.from_bits.Given as goal

abbrev pub invariant-loop-number : goal.invariant-loop-number
invariant-loop-number l = l.set ≡ take l.number l.bits ++ replicate (l.count - l.number) false
