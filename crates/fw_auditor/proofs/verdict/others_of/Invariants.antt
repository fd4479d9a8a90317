use Rattle.std.proofs.Common.{◌≡◌, take}
use Rattle.std.specs.List.{filter_map}
use Rattle.fw_auditor.specs.Private.{beside}
use Rattle.fw_auditor.proofs.verdict.others_of.Given as goal

-- the others so far
abbrev pub invariant-loop-other : goal.invariant-loop-other
invariant-loop-other l = l.others.items ≡ filter_map (beside l.subject) (take l.other-index l.subjects)
