use Rattle.std.proofs.Common.{All, take}
use Rattle.fw_rollout.specs.declared.link.Listed.{Listed}
use Rattle.fw_host.specs.Sealings.{AreLinksOf, HasLink, IsListedAt}
use Rattle.fw_host.proofs.sealing.links_with_meters.Given as goal

-- the links with the meters so far, with each of which the file has one
abbrev pub invariant-loop-at : goal.invariant-loop-at
invariant-loop-at l = AreLinksOf l.fn.order l.file (IsListedAt (take l.at-index l.list)) l.links
    × All (λ (at : Listed). HasLink l.file.entries at.meter) (take l.at-index l.list)
