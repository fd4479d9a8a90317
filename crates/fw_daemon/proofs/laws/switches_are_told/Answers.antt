use Rattle.fw_daemon.proofs.Switching.{switches_are_told}
use Rattle.fw_daemon.proofs.laws.switches_are_told.Goals as goal

pub returns : goal.returns
returns c = switches_are_told
