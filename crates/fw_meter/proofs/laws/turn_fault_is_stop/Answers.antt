use Rattle.fw_meter.proofs.Stops.{turn_fault_is_stop}
use Rattle.fw_meter.proofs.laws.turn_fault_is_stop.Goals as goal

pub returns : goal.returns
returns c = turn_fault_is_stop
