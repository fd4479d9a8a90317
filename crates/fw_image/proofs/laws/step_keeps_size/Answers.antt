use Rattle.fw_image.proofs.Sizes.{stepped_size}
use Rattle.fw_image.proofs.laws.step_keeps_size.Goals as goal

pub returns : goal.returns
returns c = stepped_size
