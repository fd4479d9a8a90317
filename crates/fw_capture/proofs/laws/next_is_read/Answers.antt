use Rattle.fw_capture.proofs.ReadBack.{next_is_read}
use Rattle.fw_capture.proofs.laws.next_is_read.Goals as goal

pub returns : goal.returns
returns c = next_is_read
