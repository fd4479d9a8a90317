use Rattle.fw_daemon.proofs.Replying.{replies_only}
use Rattle.fw_daemon.proofs.laws.replies_only.Goals as goal

pub returns : goal.returns
returns c = replies_only
