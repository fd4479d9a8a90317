use Rattle.fw_kept.proofs.Books.{one_book}
use Rattle.fw_kept.proofs.laws.one_book.Goals as goal

pub returns : goal.returns
returns c = one_book c.one_reading.ensures c.one_book.ensures
