use Rattle.std.proofs.Common.{Err, subst}
use Rattle.fw_audit.specs.Log.{log_of}
use Rattle.fw_audit.specs.Private.{IsOutlived}
use Rattle.fw_audit.specs.declared.life.Stop.{Stop}
use Rattle.fw_audit.proofs.Gathering.{gathers_departed, gathers_more}
use Rattle.fw_audit.proofs.audit.gathered.Goals as goal

pub returns-in-Ok-both_added : goal.returns-in-Ok-both_added
returns-in-Ok-both_added c lefts rest less g pops =
    gathers_more c.args.heads.now lefts (log_of c.args.items.now) rest less c.args.found.items c.in-Ok-both_added.more.items c.args.far c.args.left c.in-Ok.first c.in-Ok.second
    g pops c.in-Ok.ensures c.in-Ok-both_added.ensures

pub returns-in-Err-Departs : goal.returns-in-Err-Departs
returns-in-Err-Departs c lefts rest less g pops =
    gathers_departed c.args.heads.now lefts (log_of c.args.items.now) rest less c.args.found.items c.args.far c.args.left c.in-Err-Departs.departure c.farther.result
    g pops (subst (λ (s : Stop). IsOutlived c.args.heads.now c.args.left.switched.items c.args.left.meter.meter (log_of c.args.items.now) (Err s)) c.in-Err-Departs.field-0-is c.in-Err-Departs.ensures)
    c.farther.ensures.this c.farther.ensures.that c.farther.ensures.one
