use Rattle.std.proofs.Common.{◌≡◌, false}
use Rattle.fw_daemon.specs.Daemon.{daemon_of}
use Rattle.fw_daemon.specs.Rounds.{IsWatched}
use Rattle.fw_cli.proofs.noted_serving.serve_noted.Given as goal

-- the events so far were told
abbrev pub invariant-loop : goal.invariant-loop
invariant-loop g l =
    (goal.iterator-loop g).can_next l.iterator' × (goal.iterator-loop g).is_finite l.iterator'
    × (g.P.Port.honest l.port ≡ false)
    × IsWatched g.W.Watch.tells (daemon_of l.fn.daemon) l.fn.watch (daemon_of l.daemon) l.watch
