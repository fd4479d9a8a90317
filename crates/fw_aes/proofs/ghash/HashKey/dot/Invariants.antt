use Rattle.std.proofs.Common.{◌≡◌, ◌*◌, ◌-◌}
use Rattle.fw_aes.specs.Gcm.{v_after}
use Rattle.fw_aes.proofs.DotFacts.{row_of}
use Rattle.fw_aes.proofs.XorSums.{sum}
use Rattle.fw_aes.proofs.ghash.HashKey.dot.Given as goal

abbrev pub invariant-loop-t : goal.invariant-loop-t
invariant-loop-t l = l.z ≡ sum l.t (λ s. v_after (row_of l.self l.x s) (8 * (l.t - 1 - s)))
