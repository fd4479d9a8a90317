use Rattle.fw_image.proofs.OneStep.{one_turn}
use Rattle.fw_image.proofs.laws.one_turn.Goals as goal

pub returns : goal.returns
returns c = one_turn
