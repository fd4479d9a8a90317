use Rattle.std.proofs.Common.{◌≡◌, ◌++◌, take}
use Rattle.fw_order.specs.Order.{ends_of}
use Rattle.fw_auditor.specs.Private.{ends_in}
use Rattle.fw_auditor.proofs.ends.logs_of.Given as goal

-- the logs so far
abbrev pub invariant-loop-meter : goal.invariant-loop-meter
invariant-loop-meter l = ends_of l.logs.items ≡ ends_in (take l.meter l.meters)

abbrev pub invariant-loop-head : goal.invariant-loop-head
invariant-loop-head l = ends_of l.logs.items ≡ ends_in l.meters ++ ends_in (take l.head l.heads)
