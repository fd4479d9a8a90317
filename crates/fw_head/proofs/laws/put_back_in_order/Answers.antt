use Rattle.fw_head.proofs.PutBack.{put_back_in_order}
use Rattle.fw_head.proofs.laws.put_back_in_order.Goals as goal

pub returns : goal.returns
returns c = put_back_in_order
