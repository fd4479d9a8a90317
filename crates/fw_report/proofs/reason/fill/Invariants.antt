use Rattle.fw_report.proofs.Reasons.{IsFilled}
use Rattle.fw_report.proofs.reason.fill.Given as goal

abbrev pub invariant-loop-place : goal.invariant-loop-place
invariant-loop-place l = IsFilled l.initial.reasons.items l.reasons.items l.count l.place l.reason
