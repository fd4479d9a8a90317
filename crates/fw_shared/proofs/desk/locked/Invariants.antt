use Rattle.std.proofs.Common.{◌≡◌, ◌+◌, length, vec_len}
use Rattle.std.specs.Vec.Iter.{into_iter_items, into_iter_len}
use Rattle.fw_shared.proofs.desk.locked.Given as goal

-- those that are locked and those that are left are as many as all
abbrev pub invariant-loop-shard : goal.invariant-loop-shard
invariant-loop-shard l =
    (into_iter_len l.shard-iterator ≡ length (into_iter_items l.shard-iterator))
    × (vec_len l.all + into_iter_len l.shard-iterator ≡ vec_len l.fn.shards)
