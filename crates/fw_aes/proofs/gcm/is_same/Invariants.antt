use Rattle.std.proofs.Common.{◌≡◌, ℕ, ◌<◌, get_or}
use Rattle.fw_aes.proofs.gcm.is_same.Given as goal

abbrev pub invariant-loop-i : goal.invariant-loop-i
invariant-loop-i l = record {
  same : l.difference ≡ 0 → (j : ℕ) → j < l.i → get_or l.a j 0 ≡ get_or l.b j 0;
  none : ((j : ℕ) → j < l.i → get_or l.a j 0 ≡ get_or l.b j 0) → l.difference ≡ 0;
}
