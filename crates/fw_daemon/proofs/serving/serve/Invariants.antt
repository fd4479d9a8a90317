use Rattle.std.proofs.Common.{◌≡◌, List, IsTrue}
use Rattle.fw_daemon.specs.Acts.{Act}
use Rattle.fw_daemon.specs.Daemon.{daemon_of}
use Rattle.fw_daemon.specs.Rounds.{IsWatched}
use Rattle.fw_daemon.specs.Serving.{Serves}
use Rattle.fw_daemon.proofs.serving.serve.Given as goal

-- what was done so far is the daemon's, the port goes on to let through what is legal, and the events were told
abbrev pub invariant-loop : goal.invariant-loop
invariant-loop g l =
    (goal.iterator-loop g).can_next l.iterator' × (goal.iterator-loop g).is_finite l.iterator'
    × (IsTrue (g.P.Port.honest l.fn.port) → Serves (daemon_of l.fn.daemon) (g.P.Port.acts l.fn.port) (g.P.Port.acts l.port) (daemon_of l.daemon))
    × (g.P.Port.honest l.port ≡ g.P.Port.honest l.fn.port)
    × ((done : List Act) → g.P.Port.legal l.fn.port done → g.P.Port.legal l.port done)
    × IsWatched g.W.Watch.tells (daemon_of l.fn.daemon) l.fn.watch (daemon_of l.daemon) l.watch
