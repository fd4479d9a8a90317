use Rattle.std.proofs.Common.{◌≡◌, ◌++◌, drop, map, All}
use Rattle.std.specs.List.{flat_map}
use Rattle.fw_world.specs.declared.setup.HeadSetup.{HeadSetup}
use Rattle.fw_world.specs.Setup.{number_of_head}
use Rattle.fw_air.specs.Links.{IsNew, IsThere, link_of}
use Rattle.fw_air.specs.Rounds.{links, links_with}
use Rattle.fw_air.proofs.links.links_of.Given as goal

-- what was made, and the links of the head ends that are left
abbrev pub invariant-loop-head : goal.invariant-loop-head
invariant-loop-head l =
    (map link_of l.made.items ++ flat_map (λ (head : HeadSetup). links_with l.world (number_of_head head) l.setup.meters.items) (drop l.head-index l.setup.heads.items) ≡ links l.setup l.world)
    × All (IsThere l.world) l.made.items
    × All IsNew l.made.items
