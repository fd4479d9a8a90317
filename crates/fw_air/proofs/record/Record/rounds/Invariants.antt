use Rattle.std.proofs.Common.{◌≡◌, ◌-◌, List, map, replicate, All}
use Rattle.fw_world.specs.Step.{Event}
use Rattle.fw_air.specs.Private.{Follows}
use Rattle.fw_air.specs.Links.{IsThere, link_of, queue_of}
use Rattle.fw_air.specs.Rounds.{IsRound}
use Rattle.fw_air.proofs.Fated.{LeadsRounds}
use Rattle.fw_air.proofs.Runs.{Leads}
use Rattle.fw_air.proofs.record.Record.rounds.Given as goal

-- the rounds so far lead to what the rounds that are left lead to
abbrev pub invariant-loop-round : goal.invariant-loop-round
invariant-loop-round g l =
    All (IsThere l.self.world) l.links
    × (map link_of l.links ≡ map link_of l.initial.links)
    × ((so_far : List Event) × Follows l.initial.self so_far l.self
    × Leads IsRound (replicate l.rounds (map link_of l.initial.links)) l.initial.self.world (replicate (l.rounds - l.round) (map link_of l.initial.links)) l.self.world so_far
    × LeadsRounds l.fates l.rounds (map queue_of l.initial.links) l.initial.self.world (l.rounds - l.round) (map queue_of l.links) l.self.world so_far)
