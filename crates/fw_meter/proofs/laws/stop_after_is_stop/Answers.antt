use Rattle.fw_meter.proofs.Cutting.{stop_after_is_stop}
use Rattle.fw_meter.proofs.laws.stop_after_is_stop.Goals as goal

pub returns : goal.returns
returns c = stop_after_is_stop c.torn_size.ensures
