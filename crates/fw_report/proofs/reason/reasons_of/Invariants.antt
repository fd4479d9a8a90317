use Rattle.fw_world.specs.Runs.{events_of}
use Rattle.fw_report.proofs.Reasons.{SoFar}
use Rattle.fw_report.proofs.reason.reasons_of.Given as goal

-- the reasons are those by the events so far
abbrev pub invariant-loop-at : goal.invariant-loop-at
invariant-loop-at l = SoFar l.fn.setup (events_of l.events) l.at l.world l.reasons.items
