use Rattle.fw_rollout.specs.Rollout.{no_other}
use Rattle.fw_field.specs.Rollouts.{any_list}
use Rattle.fw_sealed.proofs.Rollouts.{sealed_rollout_told}
use Rattle.fw_sealed.proofs.laws.sealed_rollout_told_is_true.Goals as goal

pub returns-clause-one : goal.returns-clause-one
returns-clause-one c = sealed_rollout_told no_other c.links_stay_sealed.ensures c.sealed_moves_are_moves.ensures c.rollout_told_is_true.ensures.one

pub returns-clause-any : goal.returns-clause-any
returns-clause-any c = sealed_rollout_told any_list c.links_stay_sealed.ensures c.sealed_moves_are_moves.ensures c.rollout_told_is_true.ensures.any
