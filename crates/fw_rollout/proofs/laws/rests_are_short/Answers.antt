use Rattle.fw_rollout.proofs.Resting.{rests_are_short}
use Rattle.fw_rollout.proofs.laws.rests_are_short.Goals as goal

pub returns : goal.returns
returns c = rests_are_short
