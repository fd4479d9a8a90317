-- The parts that were appended are the header.
use Rattle.fw_capture.proofs.Packets.{ipv4_header_put}
use Rattle.fw_capture.proofs.internet.put_ipv4_header.Goals as goal

pub returns-clause-ok : goal.returns-clause-ok
returns-clause-ok c =
    ipv4_header_put c.args.out.now.items c.extend_from_slice.new.self.items c.extend_from_slice-2.new.self.items c.extend_from_slice-3.new.self.items
    c.extend_from_slice-4.new.self.items c.extend_from_slice-5.new.self.items c.extend_from_slice-6.new.self.items
    c.to_be_bytes.result c.to_be_bytes-2.result c.args.from c.args.to c.args.protocol c.args.size c.ipv4_checksum-sum.result
    c.to_be_bytes.ensures c.to_be_bytes-2.ensures c.ipv4_checksum-sum.ensures
    c.in_ok-extend_from_slice.ensures.items c.in_ok-extend_from_slice-2.ensures.items c.in_ok-extend_from_slice-3.ensures.items
    c.in_ok-extend_from_slice-4.ensures.items c.in_ok-extend_from_slice-5.ensures.items c.in_ok-extend_from_slice-6.ensures.items
