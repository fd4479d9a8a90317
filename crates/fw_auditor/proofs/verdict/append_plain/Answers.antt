use Rattle.std.proofs.Common.{List, ap, refl, inl, subst, ◌∙◌}
use Rattle.std.proofs.lemmas.Result.{IfOk-weaker}
use Rattle.std.specs.declared.net.socket_addr.SocketAddr.{SocketAddr}
use Rattle.fw_audit.specs.Log.{log_of}
use Rattle.fw_audit.specs.Stands.{IsMeterLog}
use Rattle.fw_evidence.specs.declared.site.Side.TheVariants as sides
use Rattle.fw_evidence.specs.declared.site.Site.{Site}
use Rattle.fw_image.specs.Meter.{reopened}
use Rattle.fw_auditor.specs.Private.{HasFit, IsCompared, IsSiteOf, others_of}
use Rattle.fw_auditor.specs.declared.list.Subject.{Subject}
use Rattle.fw_auditor.specs.declared.verdict.Verdict.{Verdict}
use Rattle.fw_auditor.proofs.Fitted.{fits_by}
use Rattle.fw_auditor.proofs.verdict.append_plain.Goals as goal

pub returns-in-Ok : goal.returns-in-Ok
returns-in-Ok c =
    let given = c.args.given.now in
    let subject = c.args.subject.now in
    let begin = c.args.begin.meter in
    let capture = c.args.capture.now in
    let end = c.args.end.now.meter in
    let found = c.in-Ok.found in
    let log = log_of found.log.items.items in
    let whole = c.whole_part-whole.result.now in
    let site : Site = record { side = sides.Meter; at = subject.address; others = c.deref-2.result; heads = c.deref-3.result } in
    let others = c.deref-2.ensures.value ∙ c.in_ok-others.ensures ∙ ap (λ (subjects : List Subject). others_of subjects subject) c.deref.ensures.value in
    let own : IsSiteOf given subject site = record { side = refl; at = refl; heads = c.deref-3.ensures.value; others = others } in
    let is = subst (λ (heads : List SocketAddr). IsMeterLog heads (reopened begin) log found.images.items end) c.deref-3.ensures.value c.in-Ok.ensures.is in
    IfOk-weaker c.append_fitting.result (λ (v : Verdict). IsCompared given subject found.log found.images.items v) (λ (v : Verdict). HasFit given subject begin capture end v)
    (λ v compared. fits_by given subject begin capture end found.log found.log.marks.items found.images.items site whole v own c.whole_part-whole.ensures (inl (c.requires, c.in-Ok.ensures.log)) is compared)
    c.append_fitting.ensures
