use Rattle.std.proofs.Common.{rules}
use Rattle.fw_server.proofs.Packing.{length_packed, packed_bits}
use Rattle.fw_server.proofs.response.copied.Goals as goal

pub from_vec-requires : goal.from_vec-requires
from_vec-requires c = let size = length_packed c.args.bits.now in search rules

pub returns : goal.returns
returns c = let back = packed_bits c.short_spells.ensures c.args.bits.now in search rules
