use Rattle.fw_capture.proofs.Streaming.{header_taken}
use Rattle.fw_capture.proofs.stream.take_header.Goals as goal

pub returns-clause-header : goal.returns-clause-header
returns-clause-header g c = header_taken _ _ c.new-bytes.result.items c.fill_up.new.bytes.items c.new-bytes.ensures.items c.in_ok-fill_up.ensures.fills
