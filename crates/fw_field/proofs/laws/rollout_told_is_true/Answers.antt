use Rattle.fw_rollout.specs.Rollout.{no_other}
use Rattle.fw_field.specs.Rollouts.{any_list}
use Rattle.fw_field.proofs.Rollouts.{rollout_told_is_true}
use Rattle.fw_field.proofs.laws.rollout_told_is_true.Goals as goal

pub returns-clause-one : goal.returns-clause-one
returns-clause-one c = rollout_told_is_true c.moves_are_safe.ensures.reports no_other

pub returns-clause-any : goal.returns-clause-any
returns-clause-any c = rollout_told_is_true c.moves_are_safe.ensures.reports any_list
