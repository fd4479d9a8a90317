use Rattle.std.proofs.Common.{◌≡◌, length}
use Rattle.fw_capture.specs.Whole.{without_zeros}
use Rattle.fw_capture.proofs.whole.stem.Given as goal

abbrev pub invariant-loop-left : goal.invariant-loop-left
invariant-loop-left l = without_zeros l.left ≡ without_zeros l.fn.bytes

abbrev pub decreases-loop-left : goal.decreases-loop-left
decreases-loop-left l = length l.left
