use Rattle.fw_image.proofs.Sizes.{turned_size}
use Rattle.fw_image.proofs.laws.turn_keeps_size.Goals as goal

pub returns : goal.returns
returns c = turned_size
