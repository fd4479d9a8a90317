use Rattle.fw_store.proofs.SlotLaws.{slots_stay}
use Rattle.fw_store.proofs.laws.slots_stay.Goals as goal

pub returns : goal.returns
returns c = slots_stay
