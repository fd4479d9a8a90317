use Rattle.fw_recording.proofs.Readings.{written_is_held}
use Rattle.fw_recording.proofs.laws.written_is_held.Goals as goal

pub returns : goal.returns
returns c = written_is_held c.header_is_read.ensures c.packet_is_read.ensures
