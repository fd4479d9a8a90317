use Rattle.fw_ledger.proofs.Books.{book_unique}
use Rattle.fw_ledger.proofs.laws.one_book.Goals as goal

pub returns : goal.returns
returns c = book_unique
