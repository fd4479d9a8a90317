use Rattle.fw_book.proofs.Spellings.{same_read}
use Rattle.fw_book.proofs.laws.one_reading.Goals as goal

pub returns : goal.returns
returns c = same_read
