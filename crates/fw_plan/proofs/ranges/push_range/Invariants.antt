use Rattle.std.proofs.Common.{◌≡◌, ◌++◌}
use Rattle.fw_plan.specs.Ranges.{range_in}
use Rattle.fw_plan.proofs.ranges.push_range.Given as goal

-- the numbers that are there and those of the campaigns that are left are all
abbrev pub invariant-loop-serial : goal.invariant-loop-serial
invariant-loop-serial l =
    l.serials.items ++ range_in l.first l.last l.serial-iterator ≡ l.fn.serials.items ++ range_in l.first l.last l.book.campaigns
