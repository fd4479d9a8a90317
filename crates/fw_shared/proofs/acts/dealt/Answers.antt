use Rattle.std.specs.List.{range_with_len}
use Rattle.std.specs.List.Sorted.{IsPermutation}
use Rattle.std.specs.Prelude.{◌%◌}
use Rattle.std.proofs.Common.{◌≡◌, ◌<◌, ℕ, List, [], ◌∷◌, ◌++◌, length, map, sym, ap, subst, ◌∙◌, append-nil, append_assoc, arith}
use Rattle.std.proofs.lemmas.List.Sorted.{IsPermutation-refl}
use Rattle.fw_head.specs.Row.{Row}
use Rattle.fw_shared.specs.Acts.{all_rows, dealt_rows, rows_of_shard}
use Rattle.fw_shared.specs.declared.acts.Shard.{Shard}
use Rattle.fw_shared.proofs.Dealing.{dealt_more, empty_more, first_is, moved_more, none_is, none_more}
use Rattle.fw_shared.proofs.acts.dealt.Goals as goal

abbrev rows_in : Shard → List Row
rows_in shard = shard.rows.items

abbrev shard_of : Row → ℕ
shard_of row = row.client.meter % 8

pub loop-preserved : goal.loop-preserved
loop-preserved c =
    let were = c.loop.invariant in (
      omega (arith, were.0, c.in_ok-push.ensures.len),
      ap (map rows_in) c.in_ok-push.ensures.items ∙ empty_more rows_in shard_of c.loop.counter c.loop.shards.items c.new.result were.1 c.new.ensures,
      ap all_rows c.in_ok-push.ensures.items ∙ none_more rows_in shard_of c.loop.shards.items c.new.result were.2 c.new.ensures,
    )

pub loop-row-init : goal.loop-row-init
loop-row-init c =
    let were = c.loop.invariant in
    let eight : c.loop.counter ≡ 8 = omega (arith, c.loop-test.false, c.loop.auto.counter-end) in (
      were.0 ∙ eight,
      (
        [],
        subst (λ (n : ℕ). map rows_in c.loop.shards.items ≡ map (rows_of_shard []) (range_with_len 0 n)) eight were.1,
        subst (λ (xs : List Row). IsPermutation [] xs) (sym were.2) (IsPermutation-refl []),
        c.into_iter-row-iterator.ensures.into_iter_gives,
      ),
    )

pub loop-row-preserved : goal.loop-row-preserved
loop-row-preserved c =
    let were = c.loop-row.invariant in
    let done : List Row = were.1.0 in
    let row : Row = c.in-Some.row in
    let rest : List Row = c.next.new.self in
    let old : Shard = c.index_mut.result.now in
    let new : Shard = c.push-in-loop-row.new.self in
    let shards : List Shard = c.loop-row.shards.items in
    let taken : c.loop-row.row-iterator ≡ row ∷ rest = first_is c.loop-row.row-iterator rest c.next.result row c.in-Some.is c.next.ensures.steps in
    let by : c.place.result ≡ shard_of row = c.place.ensures.value ∙ ap (λ (meter : ℕ). meter % 8) c.meter.ensures in
    let inside : c.place.result < length shards = omega (arith, were.0, c.place.ensures.within, c.loop-row.shards.ok.0) in (
      were.0,
      (
        done ++ row ∷ [],
        dealt_more rows_in shard_of 8 done shards row c.place.result old new by c.place.ensures.within were.1.1 c.index_mut.ensures.value c.in_ok-push-2.ensures,
        moved_more rows_in shard_of done shards row c.place.result old new were.1.2 inside c.index_mut.ensures.value c.in_ok-push-2.ensures,
        append_assoc done (row ∷ []) rest ∙ ap (λ xs. done ++ xs) (sym taken) ∙ were.1.3,
      ),
    )

pub returns : goal.returns
returns c =
    let were = c.loop-row.invariant in
    let done : List Row = were.1.0 in
    let ends : c.loop-row.row-iterator ≡ [] = none_is c.loop-row.row-iterator c.next.new.self c.next.result c.in-None.is c.next.ensures.steps in
    let all : done ≡ c.args.rows = sym (append-nil done) ∙ ap (λ xs. done ++ xs) (sym ends) ∙ were.1.3 in
    record {
      count = were.0;
      rows = were.1.1 ∙ ap dealt_rows all;
      all = subst (λ xs. IsPermutation xs (all_rows c.loop-row.shards.items)) all were.1.2;
    }
