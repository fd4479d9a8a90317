use Rattle.fw_store.proofs.SlotLaws.{written_is_read}
use Rattle.fw_store.proofs.laws.written_is_read.Goals as goal

pub returns : goal.returns
returns c = written_is_read
