use Rattle.fw_store.proofs.SlotLaws.{header_stays}
use Rattle.fw_store.proofs.laws.header_stays.Goals as goal

pub returns : goal.returns
returns c = header_stays
