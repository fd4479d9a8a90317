use Rattle.std.proofs.Common.{◌≤◌, List, inr, length, refl, subst, arith}
use Rattle.std.proofs.lemmas.List.{take_all}
use Rattle.fw_rollout.specs.Counting.{CountsJust}
use Rattle.fw_rollout.specs.declared.ended.Ended.{Ended}
use Rattle.fw_rollout.proofs.Counted.{rows_more}
use Rattle.fw_rollout.proofs.daemon.count_ended.Goals as goal

pub loop-one-init : goal.loop-one-init
loop-one-init c = record { counts = record { done = inr (refl, refl); failed = inr (refl, refl) }; others = refl }

pub loop-one-preserved : goal.loop-one-preserved
loop-one-preserved c =
    rows_more c.args.ended.now c.loop-one.one-index c.one-item.result c.args.counts.now c.loop-one.counts c.count_row.new.counts (omega arith) c.one-item.is c.loop-one.invariant c.count_row.ensures

pub returns : goal.returns
returns c =
    let all : length c.args.ended.now ≤ c.loop-one.one-index = omega arith in
    subst (λ (rows : List Ended). CountsJust rows c.args.counts.now c.loop-one.counts) (take_all c.loop-one.one-index c.args.ended.now all) c.loop-one.invariant
