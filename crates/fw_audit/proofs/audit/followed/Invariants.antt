use Rattle.std.proofs.Common.{◌-◌, ◌≤◌, length, take}
use Rattle.fw_image.specs.Meter.{reopened}
use Rattle.fw_audit.specs.Log.{log_of}
use Rattle.fw_audit.specs.Private.{AreAllLeft, StartsAt}
use Rattle.fw_audit.proofs.audit.followed.Given as goal

-- these are left by the log so far, and a start follows, or nothing
abbrev pub invariant-loop-at : goal.invariant-loop-at
invariant-loop-at l =
    AreAllLeft l.heads (reopened l.fn.begin.meter) (take l.at (log_of l.items)) l.lefts.items × (l.at ≤ length l.items) × StartsAt (log_of l.items) l.at

abbrev pub decreases-loop-at : goal.decreases-loop-at
decreases-loop-at l = length l.items - l.at
