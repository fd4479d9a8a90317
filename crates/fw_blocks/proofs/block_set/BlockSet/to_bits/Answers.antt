use Rattle.fw_blocks.proofs.block_set.BlockSet.to_bits.Goals as goal

pub from_vec-requires : goal.from_vec-requires
from_vec-requires c =
    rw (c.in_ok-packed_bytes.ensures.bytes, c.count-count.ensures) (c.bits_packed.ensures c.args.self.now).0

pub returns-clause-bits : goal.returns-clause-bits
returns-clause-bits c =
    rw (c.from_vec.ensures, c.in_ok-packed_bytes.ensures.bytes, c.count-count.ensures) (c.bits_packed.ensures c.args.self.now).1
