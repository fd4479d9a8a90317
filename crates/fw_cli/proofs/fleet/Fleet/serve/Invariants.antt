use Rattle.fw_cli.specs.Fleets.{AreWatched, daemons_of}
use Rattle.fw_cli.proofs.fleet.Fleet.serve.Given as goal

-- what happened so far was told
abbrev pub invariant-loop : goal.invariant-loop
invariant-loop g l =
    (goal.iterator-loop g).can_next l.iterator' × (goal.iterator-loop g).is_finite l.iterator'
    × AreWatched g.W.FleetWatch.tells (daemons_of l.fn.self.members.items) l.fn.watch (daemons_of l.self.members.items) l.watch
