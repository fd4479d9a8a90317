use Rattle.std.proofs.Common.{length}
use Rattle.fw_counter.proofs.Telling.{Seen}
use Rattle.fw_counter.proofs.reading.told_behind.Given as goal

abbrev pub invariant-loop-number : goal.invariant-loop-number
invariant-loop-number l = record { seen : Seen l.bytes l.bound l.later }

abbrev pub decreases-loop-number : goal.decreases-loop-number
decreases-loop-number l = length l.later
