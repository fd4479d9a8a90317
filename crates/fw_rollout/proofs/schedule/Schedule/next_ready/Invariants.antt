use Rattle.std.proofs.Common.{◌≡◌, length}
use Rattle.fw_rollout.specs.Schedule.{IsSchedule}
use Rattle.fw_rollout.proofs.schedule.Schedule.next_ready.Given as goal

abbrev pub invariant-loop-place : goal.invariant-loop-place
invariant-loop-place l = record {
  others : l.self ≡ record l.fn.self { ready = l.self.ready };
  schedule : IsSchedule l.fn.self → IsSchedule l.self;
}

abbrev pub decreases-loop-place : goal.decreases-loop-place
decreases-loop-place l = length l.self.ready.items
