use Rattle.fw_store.proofs.SlotLaws.{others_are_read}
use Rattle.fw_store.proofs.laws.others_are_read.Goals as goal

pub returns : goal.returns
returns c = others_are_read
