use Rattle.fw_ledger.proofs.Books.{failed_none}
use Rattle.fw_ledger.proofs.laws.failed_have_none.Goals as goal

pub returns : goal.returns
returns c = failed_none
