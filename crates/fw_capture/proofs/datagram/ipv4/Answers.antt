use Rattle.std.proofs.Common.{◌≡◌, ◌*◌, List, ℕ, sym, ap, ◌∙◌, arith}
use Rattle.fw_capture.specs.Reading.{ipv4_payload_at, ipv4_header_size, ipv4_size}
use Rattle.fw_capture.proofs.Readings.{ipv4_read, ipv4_body}
use Rattle.fw_capture.proofs.datagram.ipv4.Goals as goal

pub returns : goal.returns
returns c =
    let start : c.from-header_size.result * 4 ≡ ipv4_header_size c.args.packet.now = omega (arith, c.from-header_size.ensures) in
    let end : c.from-size.result ≡ ipv4_size c.args.packet.now = omega (arith, c.from-size.ensures, c.short_at.ensures) in
    let read = ipv4_read c.args.packet.now (omega arith) (omega arith) (omega (arith, start)) (omega (arith, start)) (cc) (omega (arith, start, end)) (omega (arith, end))
    ∙ ap (λ (x : List ℕ). ipv4_payload_at c.args.packet.now x) (sym (ipv4_body c.args.packet.now (c.from-header_size.result * 4) c.from-size.result start end (omega arith))) in
    rw read c.ipv4_payload.ensures
