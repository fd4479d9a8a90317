use Rattle.std.proofs.Common.{◌≡◌, ◌+◌, length}
use Rattle.std.specs.Vec.Iter.{into_iter_items}
use Rattle.fw_cli.proofs.fleet.sites_of.Given as goal

-- how many ports had their turn, and by what new meters are judged
abbrev pub invariant-loop-port : goal.invariant-loop-port
invariant-loop-port g l = record {
  counted : l.before + length (into_iter_items l.port-iterator) ≡ l.count;
  same : length l.sites.items ≡ l.before;
  fresh : l.judge.fresh ≡ l.options.fresh;
}
