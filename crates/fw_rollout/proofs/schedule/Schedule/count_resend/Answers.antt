use Rattle.std.proofs.Common.{Bool, sym, ap}
use Rattle.fw_rollout.specs.Schedule.{resends_after}
use Rattle.fw_rollout.proofs.schedule.Schedule.count_resend.Goals as goal

pub returns-then-was_paused : goal.returns-then-was_paused
returns-then-was_paused c = ap (λ (p : Bool). record c.args.self.now { resends = resends_after p c.args.until c.args.self.now.resends }) (sym c.if-was_paused.true)
