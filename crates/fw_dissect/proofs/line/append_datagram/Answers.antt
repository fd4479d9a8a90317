use Rattle.std.specs.Prelude.{string_bytes}
use Rattle.fw_capture.specs.View.{endpoint_of}
use Rattle.fw_dissect.proofs.Worded.{line}
use Rattle.fw_dissect.proofs.line.append_datagram.Goals as goal

pub returns : goal.returns
returns c =
    line c.append_end.result c.args.links.now c.args.bytes.now c.args.number (endpoint_of c.args.from) (endpoint_of c.args.to) (string_bytes c.args.text.now)
    (string_bytes c.append_front.new.text) (string_bytes c.append_words.new.text) (string_bytes c.append_end.new.text) c.in_ok-append_front.ensures c.in_ok-append_words.ensures
    c.append_end.ensures
