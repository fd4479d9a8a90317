use Rattle.fw_image.proofs.Fits.{joined_size}
use Rattle.fw_image.proofs.laws.joined_size.Goals as goal

pub returns : goal.returns
returns c = joined_size
