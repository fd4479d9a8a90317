use Rattle.std.proofs.Common.{◌≡◌, fold}
use Rattle.fw_aes.specs.Gcm.{first_blocks, hash_step}
use Rattle.fw_aes.proofs.ghash.HashKey.hash.Given as goal

abbrev pub invariant-loop-i : goal.invariant-loop-i
invariant-loop-i l = l.y ≡ fold (hash_step l.self) l.fn.y (first_blocks l.bytes l.i)
