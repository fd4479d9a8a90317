use Rattle.std.proofs.Common.{List, subst}
use Rattle.fw_audit.specs.Departures.{IsRefused}
use Rattle.fw_audit.specs.Log.{Item, log_of}
use Rattle.fw_audit.specs.declared.item.LogItem.{LogItem}
use Rattle.fw_image.specs.Meter.{reopened}
use Rattle.fw_evidence.specs.Private.{IsMarked}
use Rattle.fw_evidence.specs.Sealed.{items_in, marks_in}
use Rattle.fw_evidence.specs.declared.error.Mark.{Mark}
use Rattle.fw_evidence.proofs.Logs.{unfit_log}
use Rattle.fw_evidence.proofs.opened_audit.audit_opened.Goals as goal

pub returns-clause-refused : goal.returns-clause-refused
returns-clause-refused c =
    let heads = c.args.heads.now in
    let begin = reopened c.args.begin.meter in
    let end = c.args.end.now.meter in
    let opened = c.args.opened.now in
    let error = c.in-Err-audit_meter.error in
    let refused = subst (λ (l : List Item). IsRefused heads begin l end error) c.in-Ok.ensures.items
    (subst (λ (l : List LogItem). IsRefused heads begin (log_of l) end error) c.deref.ensures.value c.in-Err-audit_meter.ensures.refused) in
    let marked = subst (λ (m : List Mark). IsMarked m error c.placed.result) c.in-Ok.ensures.marks
    (subst (λ (m : List Mark). IsMarked m error c.placed.result) c.deref-in-Err-audit_meter.ensures.value c.placed.ensures) in
    unfit_log heads begin end (items_in opened) (marks_in opened) error c.placed.result refused marked
