use Rattle.fw_order.proofs.Biting.{order_departs}
use Rattle.fw_order.proofs.laws.order_departs.Goals as goal

pub returns : goal.returns
returns c = order_departs
