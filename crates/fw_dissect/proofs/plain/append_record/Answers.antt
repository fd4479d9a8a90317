use Rattle.std.proofs.Common.{ap, ◌∙◌}
use Rattle.fw_capture.specs.View.{datagram, endpoint_of, note, told_in, told_of}
use Rattle.fw_dissect.proofs.Plaining.{note_is, on_one, on_refusal, told_so}
use Rattle.fw_dissect.proofs.plain.append_record.Goals as goal

pub returns-in-Some-Note-clause-record : goal.returns-in-Some-Note-clause-record
returns-in-Some-Note-clause-record c =
    let packet = c.args.packet.now in
    let told = told_in packet.content in
    on_one c.args.links.now c.append_note.result packet.nanoseconds told (note c.in-Some-Note.note) c.args.out.now.items c.append_note.new.out.items
    (note_is c.args.links.now packet.nanoseconds told c.in-Some-Note.note (ap told_in c.in-Some-Note.is ∙ ap told_of (rw c.in-Some-Note.is at c.in-Some-Note.field-0-is))) c.append_note.ensures.record

pub returns-in-Some-Note-clause-refused : goal.returns-in-Some-Note-clause-refused
returns-in-Some-Note-clause-refused c =
    let packet = c.args.packet.now in
    let told = told_in packet.content in
    on_refusal c.args.links.now c.append_note.result packet.nanoseconds told (note c.in-Some-Note.note)
    (note_is c.args.links.now packet.nanoseconds told c.in-Some-Note.note (ap told_in c.in-Some-Note.is ∙ ap told_of (rw c.in-Some-Note.is at c.in-Some-Note.field-0-is))) c.append_note.ensures.refused

pub returns-in-Some-Datagram-clause-record : goal.returns-in-Some-Datagram-clause-record
returns-in-Some-Datagram-clause-record c =
    let packet = c.args.packet.now in
    let it = c.in-Some-Datagram in
    told_so c.args.links.now c.append_datagram.result packet.nanoseconds (told_in packet.content) (datagram (endpoint_of it.from) (endpoint_of it.to) it.bytes.now) c.args.out.now.items
    c.append_datagram.new.out.items (ap told_in it.is ∙ ap told_of (rw it.is at it.field-0-is)) c.append_datagram.ensures.record
