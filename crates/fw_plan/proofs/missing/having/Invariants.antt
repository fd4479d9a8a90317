use Rattle.std.proofs.Common.{◌≡◌, ◌||◌, ℕ, nat_eq}
use Rattle.std.specs.HashSet.{contains}
use Rattle.fw_plan.specs.Openings.{has_row, has_row_in}
use Rattle.fw_plan.proofs.missing.having.Given as goal

-- the meters that are there and those of the campaigns that are left are all
abbrev pub invariant-loop-number : goal.invariant-loop-number
invariant-loop-number l =
    (meter : ℕ) → (contains nat_eq l.numbers meter || has_row_in l.number-iterator l.serial l.release l.image meter)
    ≡ has_row l.book l.serial l.release l.image meter
