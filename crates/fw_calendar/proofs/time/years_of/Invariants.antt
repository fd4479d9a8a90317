use Rattle.std.proofs.Common.{◌≡◌, ◌+◌, ◌*◌, ◌≤◌}
use Rattle.fw_calendar.specs.Times.{days_of_years}
use Rattle.fw_calendar.proofs.time.years_of.Given as goal

abbrev pub invariant-years : goal.invariant-years
invariant-years l = record {
  count : l.days ≡ days_of_years l.years + l.left;
  bound : 365 * l.years + l.left ≤ l.days;
}

abbrev pub decreases-years : goal.decreases-years
decreases-years l = l.left
