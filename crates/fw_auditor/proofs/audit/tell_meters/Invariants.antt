use Rattle.std.proofs.Common.{◌≡◌, take}
use Rattle.std.specs.List.{AllZip}
use Rattle.fw_auditor.specs.Private.{FitsAs}
use Rattle.fw_auditor.proofs.audit.tell_meters.Given as goal

-- if none departed, each so far fits
abbrev pub invariant-loop-at : goal.invariant-loop-at
invariant-loop-at g l = l.tally.departed ≡ 0 → AllZip (FitsAs l.given) (take l.at l.subjects) l.tally.meters.items
