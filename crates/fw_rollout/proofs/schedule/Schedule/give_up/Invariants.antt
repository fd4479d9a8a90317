use Rattle.std.proofs.Common.{◌≡◌, ◌+◌, ◌≤◌, ℕ}
use Rattle.std.specs.Prelude.{slice_get}
use Rattle.fw_rollout.specs.Schedule.{IsSchedule, SameMeters, SettlesLink, links_of}
use Rattle.fw_rollout.proofs.Resending.{Resends}
use Rattle.fw_rollout.proofs.Settling.{expired_in}
use Rattle.fw_rollout.proofs.schedule.Schedule.give_up.Given as goal

-- each link is as it was, or given up, and no more are left whose time is over than iterations
abbrev pub invariant-loop-given_up : goal.invariant-loop-given_up
invariant-loop-given_up l = record {
  timing : l.self.timing ≡ l.fn.self.timing;
  same : IsSchedule l.fn.self → SameMeters l.fn.self l.self;
  schedule : IsSchedule l.fn.self → IsSchedule l.self;
  settles : IsSchedule l.fn.self → (place : ℕ) → SettlesLink l.now (slice_get (links_of l.fn.self) place) (slice_get (links_of l.self) place);
  resends : IsSchedule l.fn.self → Resends l.now l.fn.self l.self;
  left : IsSchedule l.fn.self → expired_in l.now (links_of l.self) + l.given_up ≤ l.most;
}
