use Rattle.std.proofs.Common.{◌≡◌}
use Rattle.std.proofs.lemmas.Result.{IfOk-weaker}
use Rattle.fw_auditor.specs.Fitting.{AllFit}
use Rattle.fw_auditor.specs.declared.audit.AuditEnd.{AuditEnd}
use Rattle.fw_auditor.specs.declared.audit.AuditEnd.TheVariants.{Fits}
use Rattle.fw_auditor.proofs.audit.run_audit.Goals as goal

pub returns : goal.returns
returns g c =
    IfOk-weaker c.tell_end.result (λ (end : AuditEnd). end ≡ Fits → c.in_ok-departed.departed ≡ 0) (λ (end : AuditEnd). end ≡ Fits → AllFit c.args.options.now)
    (λ end is fits. c.in_ok-departed.ensures (is fits)) c.tell_end.ensures
