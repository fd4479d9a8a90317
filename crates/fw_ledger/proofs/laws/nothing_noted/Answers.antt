use Rattle.fw_ledger.proofs.Known.{nothing_noted}
use Rattle.fw_ledger.proofs.laws.nothing_noted.Goals as goal

pub returns : goal.returns
returns c = nothing_noted
