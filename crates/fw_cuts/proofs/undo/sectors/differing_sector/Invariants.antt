use Rattle.std.proofs.Common.{◌≡◌, ◌≤◌, ◌<◌, ℕ}
use Rattle.fw_cuts.specs.Sectors.{in_sector}
use Rattle.fw_cuts.proofs.undo.sectors.differing_sector.Given as goal

abbrev pub invariant-loop-sector : goal.invariant-loop-sector
invariant-loop-sector l = (k : ℕ) → l.first ≤ k → k < l.sector → in_sector l.at k l.before ≡ in_sector l.at k l.after
