use Rattle.std.proofs.Common.{List, ℕ, ap, bit_xor, ◌++◌, ◌∙◌}
use lib.Lanes.{pick_l, zip2}
use Rattle.fw_aes.proofs.RoundFacts.{mix_all, next_of, other_places, sums_of}
use Rattle.fw_aes.proofs.rounds.mix_columns.Goals as goal

pub returns : goal.returns
returns c =
    let s : List ℕ = c.args.state in
    ap (λ (xs : List ℕ). zip2 bit_xor (zip2 bit_xor xs (next_of s)) (pick_l 0 (sums_of s ++ sums_of s) other_places)) c.x_times.ensures ∙ mix_all s c.fits-state
