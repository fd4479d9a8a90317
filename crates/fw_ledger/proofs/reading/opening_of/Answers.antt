use Rattle.fw_ledger.proofs.Parts.{opening_none}
use Rattle.fw_ledger.proofs.reading.opening_of.Goals as goal

pub returns-in_default-clause-bad : goal.returns-in_default-clause-bad
returns-in_default-clause-bad c = λ is. opening_none c.args.bytes.now c.in_default.ensures.none
