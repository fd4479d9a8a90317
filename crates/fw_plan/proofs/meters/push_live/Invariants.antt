use Rattle.std.proofs.Common.{◌≡◌, ◌++◌, take}
use Rattle.fw_plan.specs.Meters.{live_within}
use Rattle.fw_plan.proofs.meters.push_live.Given as goal

-- those of the rows so far are there
abbrev pub invariant-loop-row : goal.invariant-loop-row
invariant-loop-row l = l.meters.items ≡ l.fn.meters.items ++ live_within l.first l.last (take l.row-index l.rows)
