use Rattle.std.proofs.Common.{sym, subst}
use Rattle.fw_audit.specs.Log.{item_of}
use Rattle.fw_audit.specs.declared.item.LogItem.{LogItem}
use Rattle.fw_order.specs.Private.{Notes}
use Rattle.fw_order.specs.declared.sent.Datagram.{Datagram}
use Rattle.fw_order.specs.declared.sent.Sent.{Sent}
use Rattle.fw_order.proofs.Sending.{adds_it}
use Rattle.fw_order.proofs.sent.Sent.note.Goals as goal

pub returns-in_ok-insert-in-Sent : goal.returns-in_ok-insert-in-Sent
returns-in_ok-insert-in-Sent c =
    let old = c.args.self.now in
    let new : Sent = record { datagrams = c.insert.new.self } in
    let key : Datagram = record { from = c.args.from; to = c.in-Sent.to; bytes = c.in-Sent.bytes } in
    subst (λ (i : LogItem). Notes old c.args.from (item_of i) new) (sym c.in-Sent.is)
    (adds_it old new key c.in_ok-insert-in-Sent.field-0 c.in_ok-insert-in-Sent.ensures.added c.in_ok-insert-in-Sent.ensures.keys)
