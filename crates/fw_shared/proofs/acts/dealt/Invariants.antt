use Rattle.std.specs.List.{range_with_len}
use Rattle.std.specs.List.Sorted.{IsPermutation}
use Rattle.std.proofs.Common.{◌≡◌, ◌++◌, List, [], map, vec_len}
use Rattle.fw_head.specs.Row.{Row}
use Rattle.fw_shared.specs.Acts.{all_rows, dealt_rows, rows_of_shard}
use Rattle.fw_shared.proofs.acts.dealt.Given as goal

-- an empty shard for each that was made
abbrev pub invariant-loop : goal.invariant-loop
invariant-loop l =
    (vec_len l.shards ≡ l.counter)
    × (map (λ shard. shard.rows.items) l.shards.items ≡ map (rows_of_shard []) (range_with_len 0 l.counter))
    × (all_rows l.shards.items ≡ [])

-- the rows that were dealt stand in the shards of their meters; with those that are left they are all
abbrev pub invariant-loop-row : goal.invariant-loop-row
invariant-loop-row l =
    (vec_len l.shards ≡ 8)
    × ((done : List Row) × (map (λ shard. shard.rows.items) l.shards.items ≡ dealt_rows done) × IsPermutation done (all_rows l.shards.items)
    × (done ++ l.row-iterator ≡ l.fn.rows))
