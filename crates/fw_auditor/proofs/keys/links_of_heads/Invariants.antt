use Rattle.std.proofs.Common.{take}
use Rattle.fw_sealport.specs.declared.window.Order.TheVariants.{Strict}
use Rattle.fw_auditor.specs.Keyed.{AreLinksBy, as_it_is}
use Rattle.fw_auditor.proofs.keys.links_of_heads.Given as goal

-- the links by the files so far
abbrev pub invariant-loop-head : goal.invariant-loop-head
invariant-loop-head l = AreLinksBy as_it_is Strict (take l.head-index l.heads) l.meter l.links
