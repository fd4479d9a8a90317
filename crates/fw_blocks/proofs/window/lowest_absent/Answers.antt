use Rattle.std.proofs.Common.{◌≡◌, ◌+◌, ◌-◌, ◌∷◌, [], ◌++◌, get_or, drop, subst, arith}
use Rattle.std.specs.List.{range_with_len}
use Rattle.fw_blocks.specs.Private.{Lists}
use Rattle.std.proofs.lemmas.List.{drop_more, drop_all}
use Rattle.fw_blocks.specs.declared.runs.Run.{Run}
use Rattle.fw_blocks.proofs.WindowSearch.{AtRun, absent_below, at_first, at_next, at_full, at_last}
use Rattle.fw_blocks.proofs.window.lowest_absent.Goals as goal

pub loop-run-init : goal.loop-run-init
loop-run-init c = at_first c.args.set.now c.args.width c.runs-run-items.result.now c.runs-run-items.ensures

pub returns-then-len-width : goal.returns-then-len-width
returns-then-len-width c = at_full c.args.set.now c.args.width _ _ _ _ c.loop-run.invariant c.if-len-width.true

pub loop-run-preserved : goal.loop-run-preserved
loop-run-preserved c =
    let items = c.runs-run-items.result.now in
    let none : Run = record { start = 0; end = 0 } in
    let split : drop c.loop-run.run-index items ≡ get_or items c.loop-run.run-index none ∷ drop (c.loop-run.run-index + 1) items = drop_more items c.loop-run.run-index none c.loop-run-test.true in
    at_next c.args.set.now c.args.width _ _ _ _ _ _ _
    (subst (λ rest. AtRun c.args.set.now c.args.width rest c.loop-run.from c.loop-run.numbers c.loop-run.len) split c.loop-run.invariant)
    c.list-len.ensures.most (c.list-len.ensures.lists _ c.loop-run.invariant.lists)

pub returns : goal.returns
returns c =
    let items = c.runs-run-items.result.now in
    let none : drop c.loop-run.run-index items ≡ [] = drop_all c.loop-run.run-index items (omega arith) in
    let at = subst (λ rest. AtRun c.args.set.now c.args.width rest c.loop-run.from c.loop-run.numbers c.loop-run.len) none c.loop-run.invariant in
    at_last c.args.set.now c.args.width c.loop-run.from _ _ _ _ at
    (subst (λ count. Lists (absent_below c.args.set.now c.loop-run.from ++ range_with_len c.loop-run.from (count - c.loop-run.from)) c.args.width c.list-len-2.new.numbers c.list-len-2.result) c.count.ensures
    (c.list-len-2.ensures.lists _ c.loop-run.invariant.lists))
