use Rattle.fw_rollout.specs.Rollout.{no_other}
use Rattle.fw_field.specs.Rollouts.{any_list}
use Rattle.fw_sealed.proofs.Rollouts.{sealed_rollout}
use Rattle.fw_sealed.proofs.laws.sealed_rollout_is_moves.Goals as goal

pub returns-clause-one : goal.returns-clause-one
returns-clause-one c = sealed_rollout no_other c.rollout_is_moves.ensures.one

pub returns-clause-any : goal.returns-clause-any
returns-clause-any c = sealed_rollout any_list c.rollout_is_moves.ensures.any
