use Rattle.fw_store.proofs.SlotLaws.{other_slot_stays}
use Rattle.fw_store.proofs.laws.other_slot_stays.Goals as goal

pub returns : goal.returns
returns c = other_slot_stays
