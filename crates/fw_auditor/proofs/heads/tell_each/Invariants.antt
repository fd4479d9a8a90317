use Rattle.std.proofs.Common.{◌≡◌, take}
use Rattle.std.specs.List.{AllZip}
use Rattle.fw_auditor.specs.Fitting.{IsHeadTold}
use Rattle.fw_auditor.specs.Private.{ends_in}
use Rattle.fw_auditor.proofs.heads.tell_each.Given as goal

-- if none departed, each so far fits
abbrev pub invariant-loop-at : goal.invariant-loop-at
invariant-loop-at g l = l.heads.departed ≡ 0 → AllZip (IsHeadTold l.asked l.given.books.books.items) (take l.at l.logs) (ends_in l.heads.ends.items)
