use Rattle.std.proofs.Common.{◌≡◌, map, take}
use Rattle.fw_auditor.specs.Private.{asked_at}
use Rattle.fw_auditor.proofs.heads.asked_of.Given as goal

abbrev pub invariant-loop-subject : goal.invariant-loop-subject
invariant-loop-subject l = l.asked.items ≡ map asked_at (take l.subject-index l.subjects)
