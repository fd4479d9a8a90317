use Rattle.std.proofs.Common.{◌≤◌, ◌<◌, ℕ}
use Rattle.fw_cuts.specs.Sectors.{IsEither}
use Rattle.fw_cuts.proofs.undo.sectors.is_cut.Given as goal

abbrev pub invariant-loop-sector : goal.invariant-loop-sector
invariant-loop-sector l = (k : ℕ) → l.first ≤ k → k < l.sector → IsEither l.at l.now l.before l.after k
