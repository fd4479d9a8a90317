use Rattle.fw_daemon.specs.Daemon.{daemon_of}
use Rattle.fw_cli.proofs.Fleeting.{MadeRounds}
use Rattle.fw_cli.proofs.fleet.Member.turn.Given as goal

-- the rounds so far were told
abbrev pub invariant-loop-made : goal.invariant-loop-made
invariant-loop-made g l =
    MadeRounds g.W.FleetWatch.tells l.fn.number l.made (daemon_of l.fn.self.daemon) l.fn.watch (daemon_of l.self.daemon) l.watch
