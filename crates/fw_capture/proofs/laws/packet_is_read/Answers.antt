use Rattle.fw_capture.proofs.ReadBack.{packet_is_read}
use Rattle.fw_capture.proofs.laws.packet_is_read.Goals as goal

pub returns : goal.returns
returns c = packet_is_read
