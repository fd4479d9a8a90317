use Rattle.fw_ledger.proofs.Spellings.{record_unique}
use Rattle.fw_ledger.proofs.laws.one_record.Goals as goal

pub returns : goal.returns
returns c = record_unique
