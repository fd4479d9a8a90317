use Rattle.std.proofs.Common.{◌∙◌}
use Rattle.fw_rollout.proofs.Placing.{place_found, place_missed}
use Rattle.fw_rollout.proofs.schedule.Schedule.place_of.Goals as goal

pub returns-clause-found : goal.returns-clause-found
returns-clause-found c = place_found c.args.self.now c.args.address c.copied.result (c.copied.ensures ∙ c.get.ensures.value)

pub returns-clause-none : goal.returns-clause-none
returns-clause-none c = place_missed c.args.self.now c.args.address c.copied.result (c.copied.ensures ∙ c.get.ensures.value)
