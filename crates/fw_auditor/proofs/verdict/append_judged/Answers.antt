use Rattle.std.proofs.Common.{ℕ, List, subst}
use Rattle.fw_auditor.specs.Private.{BeginsAs}
use Rattle.fw_auditor.proofs.Fitted.{found_by}
use Rattle.fw_auditor.proofs.verdict.append_judged.Goals as goal

pub returns-in_ok-append_audited-in-Ok-meter_in : goal.returns-in_ok-append_audited-in-Ok-meter_in
returns-in_ok-append_audited-in-Ok-meter_in c =
    let given = c.args.given.now in
    let stores = c.args.stores in
    let begin = c.in-Ok.begin.meter in
    let begins = subst (λ (factory : List ℕ). BeginsAs given.options.now.fresh factory stores.began begin) c.deref.ensures.value c.in-Ok.ensures in
    found_by given c.args.subject.now stores c.args.capture.now begin c.in-Ok-meter_in.end.meter c.in_ok-append_audited-in-Ok-meter_in.field-0 begins c.in-Ok-meter_in.ensures
    c.in_ok-append_audited-in-Ok-meter_in.ensures
