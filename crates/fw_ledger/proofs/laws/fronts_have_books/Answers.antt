use Rattle.fw_book.specs.Changes.{empty_book}
use Rattle.fw_ledger.proofs.Books.{all_split}
use Rattle.fw_ledger.proofs.laws.fronts_have_books.Goals as goal

pub returns : goal.returns
returns c = λ head front rest book is. all_split front rest (empty_book head) book is
