use Rattle.std.proofs.Common.{subst}
use Rattle.fw_capture.specs.Place.{Place}
use Rattle.fw_capture.specs.Steps.{NextGives}
use Rattle.fw_dissect.proofs.Taken.{packet_is}
use Rattle.fw_dissect.proofs.taking.packet_of.Goals as goal

pub returns : goal.returns
returns c =
    packet_is c.args.format c.args.offset c.args.bytes.now c.next.new.self c.next.result
    (subst (λ (p : Place). NextGives p c.next.new.self c.next.result) c.at.ensures c.next.ensures)
