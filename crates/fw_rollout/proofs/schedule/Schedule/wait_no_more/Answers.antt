use Rattle.std.proofs.Common.{refl}
use Rattle.fw_rollout.proofs.Waiting.{has_taken}
use Rattle.fw_rollout.proofs.schedule.Schedule.wait_no_more.Goals as goal

pub returns-in-Some : goal.returns-in-Some
returns-in-Some c = record {
  others = refl;
  waits = λ other time. has_taken c.in-Some.until c.args.place c.args.was_until c.args.self.now.waiting c.remove.new.self c.in-Some.is c.remove.ensures.updates.0 other time;
}
