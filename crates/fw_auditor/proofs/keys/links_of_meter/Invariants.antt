use Rattle.std.proofs.Common.{take}
use Rattle.fw_auditor.specs.Keyed.{AreLinksBy, turned}
use Rattle.fw_auditor.proofs.keys.links_of_meter.Given as goal

-- the links by the files so far
abbrev pub invariant-loop-head : goal.invariant-loop-head
invariant-loop-head l = AreLinksBy turned l.fn.order (take l.head-index l.heads) l.meter l.links
