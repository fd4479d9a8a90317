use Rattle.fw_ledger.proofs.Known.{notes_go_on}
use Rattle.fw_ledger.proofs.laws.notes_go_on.Goals as goal

pub returns : goal.returns
returns c = notes_go_on c.notes_say.ensures
