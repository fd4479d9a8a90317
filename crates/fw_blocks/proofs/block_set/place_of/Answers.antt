use Rattle.std.proofs.Common.{ltb, rules}
use Rattle.std.proofs.lemmas.Bool.{ltb-true, ltb-false}
use Rattle.std.proofs.lemmas.List.Sorted.{IsPartitionPoint-from_clause}
use Rattle.fw_blocks.proofs.block_set.place_of.Goals as goal

pub returns-clause-before : goal.returns-clause-before
returns-clause-before c =
    let point = IsPartitionPoint-from_clause (λ run. ltb run.end c.args.number) _ _ c.partition_point.ensures.partitioned c.requires (λ a r q k. search rules) in
    λ k d low h. ltb-true _ _ (point.0 k d low h)

pub returns-clause-behind : goal.returns-clause-behind
returns-clause-behind c =
    let point = IsPartitionPoint-from_clause (λ run. ltb run.end c.args.number) _ _ c.partition_point.ensures.partitioned c.requires (λ a r q k. search rules) in
    λ k d low h. ltb-false _ _ (point.1 k d low h)
