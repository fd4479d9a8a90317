use Rattle.fw_image.proofs.OneStep.{one_step}
use Rattle.fw_image.proofs.laws.one_step.Goals as goal

pub returns : goal.returns
returns c = one_step
