use Rattle.std.proofs.Common.{◌-◌, ◌≤◌, IsTrue}
use Rattle.fw_cuts.proofs.Pieces.{IsWrittenTo}
use Rattle.fw_cuts.proofs.again.write_again.Given as goal

-- what is written again, up to here
abbrev pub invariant-loop-at : goal.invariant-loop-at
invariant-loop-at g l = (IsTrue g.F.StoreFiles.honest → IsWrittenTo l.size l.at (g.F.StoreFiles.seen l.fn.files) (g.F.StoreFiles.seen l.files)) × (l.at ≤ l.size)

abbrev pub decreases-loop-at : goal.decreases-loop-at
decreases-loop-at g l = l.size - l.at
