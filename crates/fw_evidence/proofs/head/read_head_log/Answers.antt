use Rattle.std.proofs.lemmas.Result.{IfErr-weaker, IfOk-weaker}
use Rattle.fw_audit.specs.Log.{log_of}
use Rattle.fw_evidence.specs.Captures.{IsLogOf, IsNoLog}
use Rattle.fw_evidence.specs.Heads.{IsHeadLogOf, IsNoHeadLog}
use Rattle.fw_evidence.specs.declared.error.LogError.{LogError}
use Rattle.fw_evidence.specs.declared.log.Log.{Log}
use Rattle.fw_evidence.proofs.head.read_head_log.Goals as goal

pub returns-clause-log : goal.returns-clause-log
returns-clause-log c =
    let at = c.args.at in
    let capture = c.args.capture.now in
    let site = c.head_site.result in
    IfOk-weaker c.read_log.result (λ (log : Log). IsLogOf site capture (log_of log.items.items) log.marks.items) (λ (log : Log). IsHeadLogOf at capture (log_of log.items.items) log.marks.items)
    (λ log reads. record { site = site; head = c.head_site.ensures; reads = reads }) c.read_log.ensures.log

pub returns-clause-none : goal.returns-clause-none
returns-clause-none c =
    let at = c.args.at in
    let capture = c.args.capture.now in
    let site = c.head_site.result in
    IfErr-weaker c.read_log.result (λ (error : LogError). IsNoLog site capture error) (λ (error : LogError). IsNoHeadLog at capture error)
    (λ error why. record { site = site; head = c.head_site.ensures; why = why }) c.read_log.ensures.none
