use Rattle.fw_book.proofs.Spellings.{same_book}
use Rattle.fw_book.proofs.laws.one_book.Goals as goal

pub returns : goal.returns
returns c = same_book
