use Rattle.fw_book.proofs.Openings.{admitted_opens}
use Rattle.fw_book.proofs.laws.admitted_opens.Goals as goal

pub returns : goal.returns
returns c = admitted_opens
