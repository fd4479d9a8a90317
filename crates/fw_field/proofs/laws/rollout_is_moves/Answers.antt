use Rattle.fw_rollout.specs.Rollout.{no_other}
use Rattle.fw_field.specs.Rollouts.{any_list}
use Rattle.fw_field.proofs.Rollouts.{rollout_is_moves}
use Rattle.fw_field.proofs.laws.rollout_is_moves.Goals as goal

pub returns-clause-one : goal.returns-clause-one
returns-clause-one c = rollout_is_moves no_other

pub returns-clause-any : goal.returns-clause-any
returns-clause-any c = rollout_is_moves any_list
