use Rattle.fw_journal.proofs.BookLemmas.{stands_unique}
use Rattle.fw_journal.proofs.laws.one_reading.Goals as goal

pub returns : goal.returns
returns c = stands_unique
