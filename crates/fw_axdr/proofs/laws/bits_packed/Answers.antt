use Rattle.std.proofs.Common.{◌≤◌, ◌*◌, length, arith}
use Rattle.fw_axdr.specs.Bits.{bytes_for}
use Rattle.fw_axdr.proofs.Shorts.{packed_bits, packed_len}
use Rattle.fw_axdr.proofs.laws.bits_packed.Goals as goal

pub returns : goal.returns
returns c bs =
    let room : length bs ≤ 8 * bytes_for (length bs) = omega arith in
    (packed_len (bytes_for (length bs)) bs, packed_bits (bytes_for (length bs)) bs room)
