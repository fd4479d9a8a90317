use Rattle.std.proofs.Common.{◌≡◌, ◌++◌, not, nat_eq, filter, take}
use Rattle.std.specs.HashSet.{contains}
use Rattle.fw_plan.proofs.missing.push_lacking.Given as goal

-- those so far that aren't among the numbers
abbrev pub invariant-loop-meter : goal.invariant-loop-meter
invariant-loop-meter l =
    l.lacking.items ≡ l.fn.lacking.items ++ filter (λ meter. not (contains nat_eq l.have meter)) (take l.meter-index l.meters)
