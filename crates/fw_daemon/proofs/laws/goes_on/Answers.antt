use Rattle.fw_daemon.proofs.Going.{goes_on}
use Rattle.fw_daemon.proofs.laws.goes_on.Goals as goal

pub returns : goal.returns
returns c = goes_on
