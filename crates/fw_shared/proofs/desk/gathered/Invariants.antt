use Rattle.std.proofs.Common.{◌≡◌, ◌++◌}
use Rattle.std.specs.Vec.Iter.{into_iter_items}
use Rattle.fw_shared.specs.Acts.{all_rows}
use Rattle.fw_shared.proofs.desk.gathered.Given as goal

-- the rows that are gathered and those that are left are all
abbrev pub invariant-loop-shard : goal.invariant-loop-shard
invariant-loop-shard l = l.all.items ++ all_rows (into_iter_items l.shard-iterator) ≡ all_rows l.fn.shards.items
