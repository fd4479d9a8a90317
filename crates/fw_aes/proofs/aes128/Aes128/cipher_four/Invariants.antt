use Rattle.std.proofs.Common.{◌≡◌, [], slice_index_or}
use Rattle.fw_aes.specs.Aes.{after_rounds}
use Rattle.fw_aes.proofs.aes128.Aes128.cipher_four.Given as goal

abbrev pub invariant-loop-n : goal.invariant-loop-n
invariant-loop-n l = record {
  a : l.a ≡ after_rounds l.self (slice_index_or l.blocks 0 []) l.n;
  b : l.b ≡ after_rounds l.self (slice_index_or l.blocks 1 []) l.n;
  c : l.c ≡ after_rounds l.self (slice_index_or l.blocks 2 []) l.n;
  d : l.d ≡ after_rounds l.self (slice_index_or l.blocks 3 []) l.n;
}
