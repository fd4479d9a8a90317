use Rattle.std.proofs.Common.{sym, ap, subst, refl}
use Rattle.fw_audit.specs.Log.{item_of}
use Rattle.fw_audit.specs.Stands.{waits}
use Rattle.fw_audit.specs.Private.{IsMisstep, IsStepped}
use Rattle.fw_audit.specs.declared.error.Rule.TheVariants as broken
use Rattle.fw_audit.specs.declared.going.Misstep.TheVariants as missteps
use Rattle.fw_audit.specs.declared.item.LogItem.{LogItem}
use Rattle.fw_audit.proofs.going.wait.Goals as goal

pub returns-in-Came : goal.returns-in-Came
returns-in-Came c =
    subst (λ (i : LogItem). IsStepped c.args.heads.now c.args.switched.items (waits c.args.meter.meter) (item_of i) c.hear.result) (sym c.in-Came.is) c.hear.ensures

pub returns-in-Turned : goal.returns-in-Turned
returns-in-Turned c =
    subst (λ (i : LogItem). IsStepped c.args.heads.now c.args.switched.items (waits c.args.meter.meter) (item_of i) c.turn.result) (sym c.in-Turned.is) (c.turn.ensures c.args.heads.now)

pub returns-in-Sent : goal.returns-in-Sent
returns-in-Sent c =
    subst (λ (i : LogItem). IsMisstep c.args.heads.now (waits c.args.meter.meter) (item_of i) (missteps.Departs broken.NothingOwed)) (sym c.in-Sent.is) (refl, λ images new h. h)

pub unreachable-requires : goal.unreachable-requires
unreachable-requires c = c.requires.going (ap item_of c.in-Started.is)
