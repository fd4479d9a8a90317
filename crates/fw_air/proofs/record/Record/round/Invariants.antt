use Rattle.std.proofs.Common.{◌≡◌, List, map, drop, take, All}
use Rattle.fw_world.specs.Step.{Event}
use Rattle.fw_air.specs.Private.{Follows}
use Rattle.fw_air.specs.Links.{IsThere, link_of, queue_of}
use Rattle.fw_air.specs.Rounds.{IsLinkRound}
use Rattle.fw_air.proofs.Fated.{LeadsAll}
use Rattle.fw_air.proofs.Runs.{Leads}
use Rattle.fw_air.proofs.record.Record.round.Given as goal

-- the links so far lead to what the links that are left lead to
abbrev pub invariant-loop-link : goal.invariant-loop-link
invariant-loop-link l =
    All (IsThere l.self.world) l.links
    × (map link_of l.links ≡ map link_of l.initial.links)
    × ((so_far : List Event) × Follows l.initial.self so_far l.self
    × Leads IsLinkRound (map link_of l.initial.links) l.initial.self.world (drop l.link-index (map link_of l.initial.links)) l.self.world so_far
    × LeadsAll l.fates (map queue_of l.initial.links) l.initial.self.world (drop l.link-index (map queue_of l.links)) l.self.world so_far (take l.link-index (map queue_of l.links)))
