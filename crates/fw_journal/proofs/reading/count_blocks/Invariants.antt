use Rattle.std.proofs.Common.{ℕ, ◌+◌, ◌≤◌, length}
use Rattle.fw_journal.specs.Book.{HasBlocks}
use Rattle.fw_journal.proofs.reading.count_blocks.Given as goal

abbrev pub invariant-loop-after : goal.invariant-loop-after
invariant-loop-after l = record { room : l.count + length l.later ≤ length l.bytes; seen : (n : ℕ) → HasBlocks n l.later → HasBlocks (l.count + n) l.bytes }

abbrev pub decreases-loop-after : goal.decreases-loop-after
decreases-loop-after l = length l.later
