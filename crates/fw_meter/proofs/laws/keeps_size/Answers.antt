use Rattle.fw_meter.proofs.Sizes.{handled_size}
use Rattle.fw_meter.proofs.laws.keeps_size.Goals as goal

pub returns : goal.returns
returns c = handled_size c.step_keeps_size.ensures
