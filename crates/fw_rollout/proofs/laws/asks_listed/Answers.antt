use Rattle.fw_rollout.proofs.Shorter.{asks_listed}
use Rattle.fw_rollout.proofs.laws.asks_listed.Goals as goal

pub returns : goal.returns
returns c = asks_listed
