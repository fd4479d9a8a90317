use Rattle.std.proofs.Common.{◌≡◌, ◌+◌, ◌-◌, ℕ, ap, take, drop, ◌∙◌, arith}
use Rattle.fw_capture.specs.Reading.{ipv6_payload_at, ipv6_payload_size}
use Rattle.fw_capture.proofs.Readings.{ipv6_read}
use Rattle.fw_capture.proofs.datagram.ipv6.Goals as goal

pub returns : goal.returns
returns c =
    let size : ipv6_payload_size c.args.packet.now ≡ 40 + c.from-end.result - 40 = omega (arith, c.from-end.ensures, c.short_at.ensures) in
    let read = ipv6_read c.args.packet.now (omega arith) (omega arith) (omega arith) (omega (arith, size))
    ∙ ap (λ (n : ℕ). ipv6_payload_at c.args.packet.now (take n (drop 40 c.args.packet.now))) size in
    rw read c.ipv6_payload.ensures
