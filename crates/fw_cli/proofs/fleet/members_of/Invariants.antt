use Rattle.std.proofs.Common.{◌≡◌, ◌+◌, All, length}
use Rattle.std.specs.Vec.Iter.{into_iter_items}
use Rattle.fw_cli.specs.Fleets.{HasHeads}
use Rattle.fw_cli.proofs.fleet.members_of.Given as goal

-- how many sites had their turn, and who may ask their meters
abbrev pub invariant-loop-site : goal.invariant-loop-site
invariant-loop-site g l = record {
  counted : l.before + length (into_iter_items l.site-iterator) ≡ l.count;
  same : length l.members.items ≡ l.before;
  heads : All (HasHeads l.options.heads.items) l.members.items;
}
