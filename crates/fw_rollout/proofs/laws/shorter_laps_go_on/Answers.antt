use Rattle.fw_rollout.proofs.Resting.{shorter_laps_go_on}
use Rattle.fw_rollout.proofs.laws.shorter_laps_go_on.Goals as goal

pub returns : goal.returns
returns c = shorter_laps_go_on
