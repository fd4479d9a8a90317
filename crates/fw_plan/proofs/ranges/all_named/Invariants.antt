use Rattle.std.proofs.Common.{◌≡◌, take}
use Rattle.fw_plan.specs.Ranges.{all_named}
use Rattle.fw_plan.proofs.ranges.all_named.Given as goal

-- those of the names so far are there
abbrev pub invariant-loop-one : goal.invariant-loop-one
invariant-loop-one l = l.serials.items ≡ all_named l.book (take l.one-index l.named)
