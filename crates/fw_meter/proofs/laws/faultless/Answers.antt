use Rattle.fw_meter.proofs.Faultless.{faultless}
use Rattle.fw_meter.proofs.laws.faultless.Goals as goal

pub returns : goal.returns
returns c = faultless
