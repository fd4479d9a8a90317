use Rattle.std.proofs.Common.{◌≡◌, ◌+◌, ◌<◌}
use Rattle.fw_calendar.specs.Times.{days_of_months}
use Rattle.fw_calendar.proofs.time.months_of.Given as goal

abbrev pub invariant-months : goal.invariant-months
invariant-months l = record {
  count : l.days ≡ days_of_months l.year l.months + l.left;
  few : l.months < 12;
}

abbrev pub decreases-months : goal.decreases-months
decreases-months l = l.left
