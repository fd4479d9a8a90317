use Rattle.std.proofs.Common.{◌≡◌, ◌++◌, drop, map, All}
use Rattle.fw_air.specs.Links.{IsNew, IsThere, link_of}
use Rattle.fw_air.specs.Rounds.{links_with}
use Rattle.fw_air.proofs.links.push_links.Given as goal

-- what was made, and the links of the meters that are left
abbrev pub invariant-loop-meter : goal.invariant-loop-meter
invariant-loop-meter l =
    (map link_of l.made.items ++ links_with l.world l.head (drop l.meter-index l.meters) ≡ map link_of l.initial.made.items ++ links_with l.world l.head l.meters)
    × All (IsThere l.world) l.made.items
    × All IsNew l.made.items
