use Rattle.std.proofs.Common.{sym, ap, subst, refl}
use Rattle.fw_audit.specs.Log.{item_of}
use Rattle.fw_audit.specs.Stands.{owes}
use Rattle.fw_audit.specs.Private.{IsMisstep, IsStepped}
use Rattle.fw_audit.specs.declared.error.Rule.TheVariants as broken
use Rattle.fw_audit.specs.declared.going.Misstep.TheVariants as missteps
use Rattle.fw_audit.specs.declared.item.LogItem.{LogItem}
use Rattle.fw_audit.proofs.going.owe.Goals as goal

pub returns-in-Sent : goal.returns-in-Sent
returns-in-Sent c heads =
    let owed = c.args.owed in
    subst (λ (i : LogItem). IsStepped heads c.args.switched.items (owes owed.to owed.reply.items c.args.meter.meter) (item_of i) c.pay.result) (sym c.in-Sent.is) (c.pay.ensures heads)

pub returns-in-Came : goal.returns-in-Came
returns-in-Came c heads =
    let owed = c.args.owed in
    subst (λ (i : LogItem). IsMisstep heads (owes owed.to owed.reply.items c.args.meter.meter) (item_of i) (missteps.Departs broken.ReplyMissing)) (sym c.in-Came.is) (refl, λ images new h. h)

pub returns-in-Turned : goal.returns-in-Turned
returns-in-Turned c heads =
    let owed = c.args.owed in
    subst (λ (i : LogItem). IsMisstep heads (owes owed.to owed.reply.items c.args.meter.meter) (item_of i) (missteps.Departs broken.ReplyMissing)) (sym c.in-Turned.is) (refl, λ images new h. h)

pub unreachable-requires : goal.unreachable-requires
unreachable-requires c = c.requires.going (ap item_of c.in-Started.is)
