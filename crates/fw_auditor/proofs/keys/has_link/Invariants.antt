use Rattle.std.proofs.Common.{take}
use Rattle.fw_auditor.specs.Keyed.{HasNoLink}
use Rattle.fw_auditor.proofs.keys.has_link.Given as goal

-- no file so far has one
abbrev pub invariant-loop-head : goal.invariant-loop-head
invariant-loop-head l = HasNoLink (take l.head-index l.heads) l.meter
