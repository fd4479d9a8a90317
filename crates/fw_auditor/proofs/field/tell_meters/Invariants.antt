use Rattle.std.proofs.Common.{◌≡◌, take}
use Rattle.fw_auditor.specs.Private.{AreFound, ends_in}
use Rattle.fw_auditor.proofs.field.tell_meters.Given as goal

-- if none departed, each so far fits
abbrev pub invariant-loop-at : goal.invariant-loop-at
invariant-loop-at g l = l.found.departed ≡ 0 → AreFound l.given (take l.at l.subjects) l.found.audited.items (ends_in l.found.ends.items)
