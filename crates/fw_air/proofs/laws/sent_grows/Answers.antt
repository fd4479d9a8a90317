use Rattle.fw_air.proofs.Present.{run_grows}
use Rattle.fw_air.proofs.laws.sent_grows.Goals as goal

pub returns : goal.returns
returns c = run_grows
