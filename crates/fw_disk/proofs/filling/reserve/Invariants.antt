use Rattle.std.proofs.Common.{◌-◌, ◌≡◌, ◌≤◌, ◌⊎◌}
use Rattle.fw_disk.proofs.Reserving.{Reserved}
use Rattle.fw_disk.proofs.filling.reserve.Given as goal

-- it is not past the end, unless that is before the begin
abbrev pub invariant-loop-at : goal.invariant-loop-at
invariant-loop-at g l = Reserved (g.F.Folder.number l.fn.file) l.from l.at (g.F.Folder.seen l.fn.folder) (g.F.Folder.seen l.folder) × ((l.at ≤ l.to) ⊎ (l.at ≡ l.from))

abbrev pub decreases-loop-at : goal.decreases-loop-at
decreases-loop-at g l = l.to - l.at
