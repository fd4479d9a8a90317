use Rattle.std.proofs.Common.{◌≡◌, length}
use Rattle.fw_cli.proofs.fleet.ports_of.Given as goal

abbrev pub invariant-loop-before : goal.invariant-loop-before
invariant-loop-before g l = length l.ports.items ≡ l.before
