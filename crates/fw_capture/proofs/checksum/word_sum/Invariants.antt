use Rattle.std.proofs.Common.{◌≡◌, ◌+◌, ◌*◌, ◌≤◌, length}
use Rattle.fw_capture.specs.Checksum.{word_sum}
use Rattle.fw_capture.proofs.checksum.word_sum.Given as goal

abbrev pub invariant-loop-left : goal.invariant-loop-left
invariant-loop-left l = (l.total + word_sum l.left ≡ l.fn.start + word_sum l.fn.bytes) × (l.total + 65535 * length l.left ≤ l.fn.start + 65535 * length l.fn.bytes)

abbrev pub decreases-loop-left : goal.decreases-loop-left
decreases-loop-left l = length l.left
