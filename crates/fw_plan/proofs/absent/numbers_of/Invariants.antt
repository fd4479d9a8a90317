use Rattle.std.proofs.Common.{◌≡◌, ◌==◌, ℕ, nat_eq, take}
use Rattle.std.specs.HashSet.{contains}
use Rattle.std.specs.List.{list_any}
use Rattle.fw_plan.proofs.absent.numbers_of.Given as goal

-- the meters so far are there
abbrev pub invariant-loop-meter : goal.invariant-loop-meter
invariant-loop-meter l = (meter : ℕ) → contains nat_eq l.numbers meter ≡ list_any (λ other. other == meter) (take l.meter-index l.meters)
