use Rattle.std.proofs.Common.{Option, sym, subst}
use Rattle.fw_audit.specs.Log.{item_of}
use Rattle.fw_audit.specs.Private.{IsStepped, stand_in}
use Rattle.fw_audit.specs.declared.going.Owed.{Owed}
use Rattle.fw_audit.proofs.going.Going.step.Goals as goal

pub returns-in-None : goal.returns-in-None
returns-in-None c =
    let self = c.args.self in
    subst (λ (o : Option Owed). IsStepped c.args.heads.now self.switched.items (stand_in self.meter.meter o) (item_of c.args.item.now) c.wait.result) (sym c.in-None.is) c.wait.ensures

pub returns-in-Some : goal.returns-in-Some
returns-in-Some c =
    let self = c.args.self in
    subst (λ (o : Option Owed). IsStepped c.args.heads.now self.switched.items (stand_in self.meter.meter o) (item_of c.args.item.now) c.owe.result) (sym c.in-Some.is)
    (c.owe.ensures c.args.heads.now)
