use Rattle.std.proofs.Common.{◌≡◌, take}
use Rattle.fw_plan.specs.Meters.{meters_of}
use Rattle.fw_plan.proofs.meters.meters_of.Given as goal

-- those of the names so far are there
abbrev pub invariant-loop-one : goal.invariant-loop-one
invariant-loop-one l = l.meters.items ≡ meters_of l.book (take l.one-index l.named)
