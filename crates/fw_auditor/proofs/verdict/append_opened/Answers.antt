use Rattle.std.proofs.Common.{List, inr, subst, sym}
use Rattle.std.proofs.lemmas.Result.{IfOk-weaker}
use Rattle.std.specs.declared.net.socket_addr.SocketAddr.{SocketAddr}
use Rattle.fw_audit.specs.Log.{Item, log_of}
use Rattle.fw_audit.specs.Stands.{IsMeterLog}
use Rattle.fw_evidence.specs.Sealed.{items_in, marks_in}
use Rattle.fw_image.specs.Meter.{reopened}
use Rattle.fw_auditor.specs.Keyed.{IsLogBy}
use Rattle.fw_auditor.specs.Private.{HasFit, IsCompared}
use Rattle.fw_auditor.specs.declared.verdict.Verdict.{Verdict}
use Rattle.fw_auditor.proofs.Fitted.{fits_by}
use Rattle.fw_auditor.proofs.verdict.append_opened.Goals as goal

pub returns-in-Ok : goal.returns-in-Ok
returns-in-Ok c =
    let given = c.args.given.now in
    let subject = c.args.subject.now in
    let begin = c.args.begin.meter in
    let capture = c.args.capture.now in
    let end = c.args.end.now.meter in
    let found = c.in-Ok.found in
    let log = log_of found.log.items.items in
    let opened = c.args.log.now in
    let marks = marks_in opened in
    let has = c.requires in
    let reads : IsLogBy given.options.now.order given.keys.items subject.meter has.site has.whole log marks =
    subst (λ (l : List Item). IsLogBy given.options.now.order given.keys.items subject.meter has.site has.whole l marks) (sym c.in-Ok.ensures.log) (inr has.reads) in
    let heads = given.options.now.heads.items in
    let is : IsMeterLog heads (reopened begin) log found.images.items end =
    subst (λ (l : List Item). IsMeterLog heads (reopened begin) l found.images.items end) (sym c.in-Ok.ensures.log)
    (subst (λ (hs : List SocketAddr). IsMeterLog hs (reopened begin) (items_in opened) found.images.items end) c.deref.ensures.value c.in-Ok.ensures.is) in
    IfOk-weaker c.append_fitting.result (λ (v : Verdict). IsCompared given subject found.log found.images.items v) (λ (v : Verdict). HasFit given subject begin capture end v)
    (λ v compared. fits_by given subject begin capture end found.log marks found.images.items has.site has.whole v has.own has.part reads is compared)
    c.append_fitting.ensures
