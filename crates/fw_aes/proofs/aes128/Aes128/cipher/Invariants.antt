use Rattle.std.proofs.Common.{◌≡◌}
use Rattle.fw_aes.specs.Aes.{after_rounds}
use Rattle.fw_aes.proofs.aes128.Aes128.cipher.Given as goal

abbrev pub invariant-loop-n : goal.invariant-loop-n
invariant-loop-n l = l.s ≡ after_rounds l.self l.block l.n
