use Rattle.std.proofs.Common.{◌≡◌, take}
use Rattle.fw_rollout.specs.Daemon.{live_of}
use Rattle.fw_rollout.specs.Schedule.{IsSchedule, listed_of, lives_of}
use Rattle.fw_rollout.proofs.daemon.schedule_of.Given as goal

-- the links are those of the meters so far
abbrev pub invariant-loop-at : goal.invariant-loop-at
invariant-loop-at l = record {
  listed : listed_of l.schedule ≡ take l.at-index l.meters;
  timing : l.schedule.timing ≡ l.fn.timing;
  lives : lives_of l.schedule ≡ live_of l.head (take l.at-index l.meters);
  schedule : IsSchedule l.schedule;
}
