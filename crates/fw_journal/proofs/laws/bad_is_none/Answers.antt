use Rattle.fw_journal.proofs.BookLemmas.{bad_stands}
use Rattle.fw_journal.proofs.laws.bad_is_none.Goals as goal

pub returns : goal.returns
returns c = bad_stands
