use Rattle.std.proofs.Common.{◌≡◌, take}
use Rattle.fw_plan.specs.Ranges.{each_once}
use Rattle.fw_plan.proofs.ranges.each_once.Given as goal

-- those so far are there, each once
abbrev pub invariant-loop-number : goal.invariant-loop-number
invariant-loop-number l = l.once.items ≡ each_once (take l.number-index l.numbers)
