use Rattle.std.proofs.Common.{◌≡◌, List, ap, map, subst, ◌∙◌}
use Rattle.std.specs.List.{AllZip}
use Rattle.std.proofs.lemmas.Result.{IfOk-weaker}
use Rattle.fw_head_audit.specs.declared.meter.AskedMeter.{AskedMeter}
use Rattle.fw_auditor.specs.Fitting.{IsHeadTold}
use Rattle.fw_auditor.specs.Private.{asked_at, ends_in}
use Rattle.fw_auditor.specs.declared.heads.Heads.{Heads}
use Rattle.fw_auditor.specs.declared.list.Subject.{Subject}
use Rattle.fw_auditor.specs.declared.options.HeadLog.{HeadLog}
use Rattle.fw_auditor.proofs.heads.tell_heads.Goals as goal

pub returns : goal.returns
returns g c =
    let given = c.args.given.now in
    let books = given.books.books.items in
    let logs = given.options.now.head_logs.items in
    let all = map asked_at given.subjects.items in
    let same = c.deref-2.ensures.value ∙ c.in_ok-asked.ensures ∙ ap (λ (subjects : List Subject). map asked_at subjects) c.deref.ensures.value in
    IfOk-weaker c.tell_each.result (λ (heads : Heads). heads.departed ≡ 0 → AllZip (IsHeadTold c.deref-2.result.now books) c.deref-3.result.now (ends_in heads.ends.items))
    (λ (heads : Heads). heads.departed ≡ 0 → AllZip (IsHeadTold all books) logs (ends_in heads.ends.items))
    (λ heads told none. subst (λ (asked : List AskedMeter). AllZip (IsHeadTold asked books) logs (ends_in heads.ends.items)) same
    (subst (λ (hs : List HeadLog). AllZip (IsHeadTold c.deref-2.result.now books) hs (ends_in heads.ends.items)) c.deref-3.ensures.value (told none)))
    c.tell_each.ensures
