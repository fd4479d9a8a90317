use Rattle.fw_rollout.proofs.Counting.{none_live}
use Rattle.fw_rollout.proofs.schedule.Schedule.live.Goals as goal

pub returns-clause-none : goal.returns-clause-none
returns-clause-none c = λ s. none_live c.args.self.now s
