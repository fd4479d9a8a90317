use Rattle.fw_head.proofs.Reopened.{begins_restarted}
use Rattle.fw_head.proofs.laws.begins_restarted.Goals as goal

pub returns : goal.returns
returns c = begins_restarted
