use Rattle.std.proofs.Common.{◌≡◌, ℕ, ◌<◌, length, get_or, []}
use Rattle.std.specs.Int.{byte_at}
use Rattle.fw_aes.specs.Multiples.{sum_of}
use Rattle.fw_aes.proofs.ghash.rows.Given as goal

abbrev pub invariant-loop-t : goal.invariant-loop-t
invariant-loop-t l = record { length : length l.rows ≡ 16; there : (k n : ℕ) → k < l.t → n < 16 → get_or (get_or l.rows k []) n 0 ≡ byte_at k (sum_of l.vs n) }
