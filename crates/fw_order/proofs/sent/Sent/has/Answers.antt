use Rattle.std.proofs.Common.{sym, ◌∙◌}
use Rattle.fw_order.specs.declared.sent.Datagram.{Datagram}
use Rattle.fw_order.proofs.Sending.{has_it, lacks_it}
use Rattle.fw_order.proofs.sent.Sent.has.Goals as goal

pub returns-clause-some : goal.returns-clause-some
returns-clause-some c is =
    let key : Datagram = record { from = c.args.from; to = c.args.to; bytes = c.args.bytes } in has_it c.args.self.now key (sym c.contains.ensures ∙ is)

pub returns-clause-none : goal.returns-clause-none
returns-clause-none c is =
    let key : Datagram = record { from = c.args.from; to = c.args.to; bytes = c.args.bytes } in lacks_it c.args.self.now key (sym c.contains.ensures ∙ is)
