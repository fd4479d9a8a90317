use Rattle.std.proofs.Common.{◌≡◌, ◌++◌}
use Rattle.fw_plan.specs.Meters.{live_in}
use Rattle.fw_plan.proofs.meters.push_range.Given as goal

-- the meters that are there and those of the campaigns that are left are all
abbrev pub invariant-loop-offer : goal.invariant-loop-offer
invariant-loop-offer l =
    l.meters.items ++ live_in l.first l.last l.offer-iterator ≡ l.fn.meters.items ++ live_in l.first l.last l.book.campaigns
