use Rattle.fw_book.proofs.Images.{opening_offers}
use Rattle.fw_book.proofs.laws.opening_offers.Goals as goal

pub returns : goal.returns
returns c = opening_offers
