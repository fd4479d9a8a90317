use Rattle.std.proofs.Common.{◌≡◌, ℕ, ◌<◌, length, get_or}
use Rattle.std.specs.Int.{byte_at}
use Rattle.fw_aes.specs.Multiples.{sum_of}
use Rattle.fw_aes.proofs.ghash.row.Given as goal

abbrev pub invariant-loop-n : goal.invariant-loop-n
invariant-loop-n l = record { length : length l.row ≡ 16; there : (k : ℕ) → k < l.n → get_or l.row k 0 ≡ byte_at l.t (sum_of l.vs k) }
