use Rattle.std.proofs.Common.{sym, ◌∙◌}
use Rattle.fw_world.specs.State.{meter_at}
use Rattle.fw_report.proofs.Reasons.{has_reason, if_ok}
use Rattle.fw_report.proofs.reason.reason_to.Goals as goal

pub returns-in-Some : goal.returns-in-Some
returns-in-Some c =
    let there = sym c.running_release.ensures ∙ c.in-Some.is in
    if_ok c.reason_asked.result _ _ (λ r asks. has_reason c.args.bytes.now (meter_at c.args.world.now c.args.meter) c.in-Some.running r there asks) c.reason_asked.ensures
