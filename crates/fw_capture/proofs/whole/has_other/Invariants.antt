use Rattle.std.proofs.Common.{◌≡◌, length}
use Rattle.fw_capture.specs.Whole.{all_zeros}
use Rattle.fw_capture.proofs.whole.has_other.Given as goal

abbrev pub invariant-loop-left : goal.invariant-loop-left
invariant-loop-left l = all_zeros l.left ≡ all_zeros l.fn.bytes

abbrev pub decreases-loop-left : goal.decreases-loop-left
decreases-loop-left l = length l.left
