use Rattle.std.proofs.Common.{◌+◌, ◌-◌, arith}
use Rattle.std.specs.Net.Addr.{ipv6_segments}
use Rattle.fw_capture.proofs.Octets.{address_is}
use Rattle.fw_capture.proofs.datagram.ipv6_address_at.Goals as goal

pub returns : goal.returns
returns c =
    address_is c.args.place (c.args.place + 16 - c.args.place) c.args.bytes.now c.copy_from_slice.new.self (ipv6_segments c.from_octets.result)
    (λ k. omega (arith, c.type_inv.bytes k)) c.requires (omega arith) c.copy_from_slice.ensures.after c.from_octets.ensures
