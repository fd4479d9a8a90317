use Rattle.fw_head_audit.proofs.Rows.{offered_in_book}
use Rattle.fw_head_audit.proofs.laws.offered_in_book.Goals as goal

pub returns : goal.returns
returns c = offered_in_book
