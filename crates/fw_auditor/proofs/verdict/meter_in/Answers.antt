use Rattle.std.proofs.Common.{ap, sym, ◌∙◌}
use Rattle.fw_auditor.specs.Private.{undo_in}
use Rattle.fw_auditor.proofs.Fitted.{holds_by}
use Rattle.fw_auditor.proofs.verdict.meter_in.Goals as goal

pub returns-in-Some : goal.returns-in-Some
returns-in-Some c =
    holds_by c.args.files c.deref.result.now c.meter_at_rest.result (ap undo_in c.in-Some.is ∙ sym c.deref.ensures.value) c.meter_at_rest.ensures.meter
