-- The sum over the parts is that over the header.
use Rattle.std.proofs.Common.{ℕ, List, get_or, ap, arith}
use Rattle.fw_capture.proofs.Sums.{word_sum-append}
use Rattle.fw_capture.proofs.internet.ipv4_header_sum.Goals as goal

pub returns : goal.returns
returns c =
    let high = ap (λ (l : List ℕ). get_or l 0 0) c.to_be_bytes.ensures in
    let low = ap (λ (l : List ℕ). get_or l 1 0) c.to_be_bytes.ensures in
    omega (arith, high, low, word_sum-append 2 c.args.from c.args.to (omega arith))
