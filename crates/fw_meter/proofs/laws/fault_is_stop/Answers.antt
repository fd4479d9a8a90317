use Rattle.fw_meter.proofs.Stops.{fault_is_stop}
use Rattle.fw_meter.proofs.laws.fault_is_stop.Goals as goal

pub returns : goal.returns
returns c = fault_is_stop
