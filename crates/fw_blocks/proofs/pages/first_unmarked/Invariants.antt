use Rattle.std.proofs.Common.{◌≡◌, ℕ, ◌-◌, ◌<◌, true}
use Rattle.fw_blocks.specs.Cuts.{max_blocks}
use Rattle.fw_blocks.specs.Private.{is_marked}
use Rattle.fw_blocks.proofs.pages.first_unmarked.Given as goal

abbrev pub invariant-loop-first : goal.invariant-loop-first
invariant-loop-first l = (i : ℕ) → i < l.first → is_marked l.words i ≡ true

abbrev pub decreases-loop-first : goal.decreases-loop-first
decreases-loop-first l = max_blocks - l.first
