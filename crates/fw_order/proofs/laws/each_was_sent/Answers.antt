use Rattle.fw_order.proofs.Biting.{each_was_sent}
use Rattle.fw_order.proofs.laws.each_was_sent.Goals as goal

pub returns : goal.returns
returns c = each_was_sent
