use Rattle.std.proofs.Common.{◌≡◌}
use Rattle.fw_cli.specs.Fleets.{HadPass, daemons_of}
use Rattle.fw_cli.proofs.fleet.turn_each.Given as goal

-- the meters so far had their turn, and what happened in it was told
abbrev pub invariant-loop-member : goal.invariant-loop-member
invariant-loop-member g l = record {
  counted : l.before ≡ l.member-index;
  had : HadPass g.W.FleetWatch.tells l.member-index (daemons_of l.fn.members) l.fn.watch (daemons_of l.members) l.watch;
}
