use Rattle.fw_daemon.proofs.Causes.{events_are_true}
use Rattle.fw_daemon.proofs.laws.events_are_true.Goals as goal

pub returns : goal.returns
returns c = events_are_true c.one_name.ensures c.one_frame.ensures c.one_request.ensures
