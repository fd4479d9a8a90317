use Rattle.fw_book.proofs.Images.{images_stay}
use Rattle.fw_book.proofs.laws.images_stay.Goals as goal

pub returns : goal.returns
returns c = images_stay
