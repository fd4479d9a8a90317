use Rattle.fw_order.proofs.Biting.{one_begins}
use Rattle.fw_order.proofs.laws.one_begins.Goals as goal

pub returns : goal.returns
returns c = one_begins
