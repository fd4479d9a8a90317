use Rattle.std.proofs.Common.{take}
use Rattle.fw_host.specs.Sealings.{AreLinksOf, IsNamed}
use Rattle.fw_host.proofs.sealing.links_with_heads.Given as goal

-- the links with the head ends so far
abbrev pub invariant-loop-entry : goal.invariant-loop-entry
invariant-loop-entry l = AreLinksOf l.fn.order l.file (IsNamed l.fn.own (take l.entry-index l.file.entries)) l.links
