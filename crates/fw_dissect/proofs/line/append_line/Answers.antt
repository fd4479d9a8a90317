use Rattle.std.proofs.Common.{ap, ◌∙◌}
use Rattle.std.specs.Prelude.{string_bytes}
use Rattle.fw_capture.specs.View.{endpoint_of, told_in, told_of}
use Rattle.fw_dissect.proofs.Worded.{line_told}
use Rattle.fw_dissect.proofs.line.append_line.Goals as goal

pub returns-in_ok-append_datagram-in-Some-Datagram-clause-line : goal.returns-in_ok-append_datagram-in-Some-Datagram-clause-line
returns-in_ok-append_datagram-in-Some-Datagram-clause-line c =
    let it = c.in-Some-Datagram in
    let packet = c.args.packet.now in
    line_told c.args.times c.args.links.now c.args.number packet.nanoseconds (string_bytes c.args.text.now)
    (string_bytes c.append_time_if-in-Some-Datagram.new.text) (string_bytes c.append_datagram.new.text) (told_in packet.content) (endpoint_of it.from) (endpoint_of it.to)
    it.bytes.now (ap told_in it.is ∙ ap told_of (rw it.is at it.field-0-is)) c.in_ok-append_time_if-in-Some-Datagram.ensures
    c.in_ok-append_datagram-in-Some-Datagram.ensures
