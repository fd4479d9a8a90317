-- The parts that were appended are the record.
use Rattle.std.proofs.Common.{◌≡◌, List, ℕ, length, ap, arith}
use Rattle.std.specs.Net.Addr.{ipv6_octets}
use Rattle.std.specs.Net.Socket.{v6_ip, v6_port}
use Rattle.fw_capture.proofs.Packets.{ipv6_put}
use Rattle.fw_capture.proofs.writing.put_ipv6.Goals as goal

pub returns-clause-ok : goal.returns-clause-ok
returns-clause-ok c =
    ipv6_put c.args.out.now.items c.put_record_header.new.out.items c.put_ipv6_header.new.out.items c.put_udp.new.out.items c.args.nanoseconds
    c.octets-source.result c.octets-dest.result (ipv6_octets (v6_ip c.args.from)) (ipv6_octets (v6_ip c.args.to)) c.args.bytes.now
    c.port.result c.port-2.result (v6_port c.args.from) (v6_port c.args.to) c.ipv6_pseudo_sum-pseudo_sum.result
    (cc) (cc) c.port.ensures c.port-2.ensures c.ipv6_pseudo_sum-pseudo_sum.ensures.sum (omega arith) (omega arith)
    c.in_ok-put_record_header.ensures.ok c.in_ok-put_ipv6_header.ensures.ok c.in_ok-put_udp.ensures.ok

pub returns-clause-told : goal.returns-clause-told
returns-clause-told c =
    let source : c.octets-source.result ≡ ipv6_octets (v6_ip c.args.from) = cc in
    let dest : c.octets-dest.result ≡ ipv6_octets (v6_ip c.args.to) = cc in
    ((omega (arith, ap (λ (x : List ℕ). length x) source), omega (arith, c.port.ensures)), (omega (arith, ap (λ (x : List ℕ). length x) dest), omega (arith, c.port-2.ensures)))
