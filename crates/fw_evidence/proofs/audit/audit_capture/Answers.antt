use Rattle.std.proofs.Common.{List, subst}
use Rattle.fw_audit.specs.Departures.{IsRefused}
use Rattle.fw_audit.specs.Log.{log_of}
use Rattle.fw_audit.specs.Stands.{IsMeterLog}
use Rattle.fw_audit.specs.declared.item.LogItem.{LogItem}
use Rattle.fw_image.specs.Meter.{reopened}
use Rattle.fw_evidence.specs.Private.{IsMarked}
use Rattle.fw_evidence.specs.declared.error.Mark.{Mark}
use Rattle.fw_evidence.proofs.Marks.{unfit, within}
use Rattle.fw_evidence.proofs.audit.audit_capture.Goals as goal

pub returns-in-Ok-audit_meter-clause-is : goal.returns-in-Ok-audit_meter-clause-is
returns-in-Ok-audit_meter-clause-is c =
    let begin = reopened c.args.begin.meter in
    let heads = c.args.site.heads.now in
    let end = c.args.end.now.meter in
    subst (λ (l : List LogItem). IsMeterLog heads begin (log_of l) c.in-Ok-audit_meter.images.items end) c.deref.ensures.value c.in-Ok-audit_meter.ensures.is

pub placed-requires : goal.placed-requires
placed-requires c =
    let begin = reopened c.args.begin.meter in
    let log = c.in-Ok.log in
    let refused = subst (λ (l : List LogItem). IsRefused c.args.site.heads.now begin (log_of l) c.args.end.now.meter c.in-Err-audit_meter.error) c.deref.ensures.value c.in-Err-audit_meter.ensures.refused in
    rw c.deref-in-Err-audit_meter.ensures.value
    (within c.args.site begin c.args.end.now.meter c.args.capture.now (log_of log.items.items) log.marks.items c.in-Err-audit_meter.error c.in-Ok.ensures.log refused)

pub returns-clause-refused : goal.returns-clause-refused
returns-clause-refused c =
    let begin = reopened c.args.begin.meter in
    let log = c.in-Ok.log in
    let refused = subst (λ (l : List LogItem). IsRefused c.args.site.heads.now begin (log_of l) c.args.end.now.meter c.in-Err-audit_meter.error) c.deref.ensures.value c.in-Err-audit_meter.ensures.refused in
    let marked = subst (λ (m : List Mark). IsMarked m c.in-Err-audit_meter.error c.placed.result) c.deref-in-Err-audit_meter.ensures.value c.placed.ensures in
    unfit c.args.site begin c.args.end.now.meter c.args.capture.now (log_of log.items.items) log.marks.items c.in-Err-audit_meter.error c.placed.result
    c.in-Ok.ensures.log refused marked
