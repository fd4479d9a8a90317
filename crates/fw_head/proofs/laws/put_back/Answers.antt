use Rattle.fw_head.proofs.PutBack.{put_back}
use Rattle.fw_head.proofs.laws.put_back.Goals as goal

pub returns : goal.returns
returns c = put_back
