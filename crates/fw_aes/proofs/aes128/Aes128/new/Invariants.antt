use Rattle.std.proofs.Common.{◌≡◌, ◌+◌, length}
use Rattle.fw_aes.specs.Schedule.{IsExpandedTo}
use Rattle.fw_aes.proofs.aes128.Aes128.new.Given as goal

abbrev pub invariant-loop-n : goal.invariant-loop-n
invariant-loop-n l = record { length : length l.keys ≡ 11; expanded : IsExpandedTo l.key l.keys (l.n + 1) }
