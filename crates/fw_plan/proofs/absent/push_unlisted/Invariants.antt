use Rattle.std.proofs.Common.{◌≡◌, ◌++◌, nat_eq, take}
use Rattle.std.specs.HashSet.{contains}
use Rattle.fw_plan.specs.Openings.{unlisted_rows}
use Rattle.fw_plan.proofs.absent.push_unlisted.Given as goal

-- those of the rows so far are there
abbrev pub invariant-loop-row : goal.invariant-loop-row
invariant-loop-row l =
    l.unlisted.items ≡ l.fn.unlisted.items ++ unlisted_rows (λ meter. contains nat_eq l.listed meter) l.serial (take l.row-index l.rows)
