use Rattle.std.proofs.Common.{◌≡◌, ◌||◌, ℕ, nat_eq, take}
use Rattle.std.specs.HashSet.{contains}
use Rattle.fw_plan.specs.Openings.{has_meter}
use Rattle.fw_plan.proofs.missing.add_meters.Given as goal

-- the meters of the rows so far are there
abbrev pub invariant-loop-row : goal.invariant-loop-row
invariant-loop-row l =
    (meter : ℕ) → contains nat_eq l.numbers meter ≡ (contains nat_eq l.fn.numbers meter || has_meter (take l.row-index l.rows) meter)
