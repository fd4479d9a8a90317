use Rattle.fw_capture.specs.View.{datagram, endpoint_of}
use Rattle.fw_dissect.proofs.Plaining.{datagram_is, on_one, on_refusal}
use Rattle.fw_dissect.proofs.plain.append_datagram.Goals as goal

pub returns-clause-record : goal.returns-clause-record
returns-clause-record c =
    let links = c.args.links.now in
    let from = endpoint_of c.args.from in
    let to = endpoint_of c.args.to in
    let shown = c.deref.result.now in
    on_one links c.append_plain.result c.args.time (datagram from to c.args.wire.now) (datagram from to shown) c.args.out.now.items c.append_plain.new.out.items
    (datagram_is links c.args.time from to c.args.wire.now c.in_ok-plain.plain.items shown c.in_ok-plain.ensures c.deref.ensures.value) c.append_plain.ensures.record

pub returns-clause-refused : goal.returns-clause-refused
returns-clause-refused c =
    let links = c.args.links.now in
    let from = endpoint_of c.args.from in
    let to = endpoint_of c.args.to in
    let shown = c.deref.result.now in
    on_refusal links c.append_plain.result c.args.time (datagram from to c.args.wire.now) (datagram from to shown)
    (datagram_is links c.args.time from to c.args.wire.now c.in_ok-plain.plain.items shown c.in_ok-plain.ensures c.deref.ensures.value) c.append_plain.ensures.refused
