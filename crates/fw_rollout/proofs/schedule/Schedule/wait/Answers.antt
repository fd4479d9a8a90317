use Rattle.std.proofs.Common.{refl}
use Rattle.fw_rollout.proofs.Waiting.{has_put}
use Rattle.fw_rollout.proofs.schedule.Schedule.wait.Goals as goal

pub returns-in_ok-insert : goal.returns-in_ok-insert
returns-in_ok-insert c = record {
  others = refl;
  waits = λ other time. has_put c.in-Some.until c.args.place c.args.until c.args.self.now.waiting c.insert.new.self c.in-Some.is c.in_ok-insert.ensures.updates.0 other time;
}
