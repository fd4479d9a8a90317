use Rattle.fw_meter.proofs.Cutting.{one_stop}
use Rattle.fw_meter.proofs.laws.one_stop.Goals as goal

pub returns : goal.returns
returns c = one_stop c.one_name.ensures c.one_frame.ensures c.one_request.ensures c.one_step.ensures
