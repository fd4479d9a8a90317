use Rattle.std.proofs.Common.{ℕ, ◌<◌, ◌≤◌, get_or}
use Rattle.fw_blocks.specs.Private.{page_size}
use Rattle.fw_blocks.proofs.pages.full_pages.Given as goal

abbrev pub invariant-loop-page : goal.invariant-loop-page
invariant-loop-page l = (page : ℕ) → page < l.page → page_size ≤ get_or l.counts page 0
