-- The sum over the parts is that over the whole.
use Rattle.std.proofs.Common.{ℕ, List, [], ◌∷◌, ◌++◌, get_or, ap, arith}
use Rattle.std.specs.Int.{w32, to_be_bytes}
use Rattle.fw_capture.proofs.Sums.{pseudo_words}
use Rattle.fw_capture.proofs.internet.ipv6_pseudo_sum.Goals as goal

pub returns-clause-sum : goal.returns-clause-sum
returns-clause-sum c =
    let high = ap (λ (l : List ℕ). get_or l 0 0) c.to_be_bytes.ensures in
    let low = ap (λ (l : List ℕ). get_or l 1 0) c.to_be_bytes.ensures in
    omega (arith, high, low, c.ranges.size.fits, pseudo_words 8 c.args.from c.args.to (to_be_bytes w32 c.args.size ++ (0 ∷ 0 ∷ 0 ∷ 17 ∷ [])) (omega arith) (omega arith))
