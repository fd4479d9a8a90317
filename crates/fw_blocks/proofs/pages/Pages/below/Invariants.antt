use Rattle.std.proofs.Common.{◌≡◌, ◌-◌, ◌++◌, false, take, replicate}
use Rattle.fw_blocks.proofs.pages.Pages.below.Given as goal

abbrev pub invariant-loop-number : goal.invariant-loop-number
invariant-loop-number l = l.set ≡ take l.number l.self ++ replicate (l.count - l.number) false
