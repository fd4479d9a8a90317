use Rattle.fw_rollout.proofs.Activating.{others_never_activate}
use Rattle.fw_rollout.proofs.laws.others_never_activate.Goals as goal

pub returns : goal.returns
returns c = others_never_activate
