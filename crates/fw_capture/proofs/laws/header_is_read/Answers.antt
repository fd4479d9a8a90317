use Rattle.fw_capture.proofs.ReadBack.{header_is_read}
use Rattle.fw_capture.proofs.laws.header_is_read.Goals as goal

pub returns : goal.returns
returns c = header_is_read
