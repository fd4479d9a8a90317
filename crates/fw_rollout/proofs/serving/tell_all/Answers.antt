use Rattle.std.proofs.Common.{◌≡◌, ◌∷◌, ◌+◌, ◌<◌, List, [], IsTrue, Bool, ℕ, length, drop, take, get_or, sym, subst, ap, ◌∙◌, arith}
use Rattle.std.proofs.lemmas.List.{drop_all, drop_more, take_all}
use Rattle.std.proofs.lemmas.List.Elements.{All-drop}
use Rattle.fw_rollout.specs.declared.ended.Ended.{Ended}
use Rattle.fw_rollout.specs.Counting.{TellsRows}
use Rattle.fw_rollout.specs.Leading.{IsNotedIn, Leads}
use Rattle.fw_rollout.proofs.Counted.{rows_next, tells_all, tells_next}
use Rattle.fw_rollout.proofs.Steps.{may_tell, telling, tells_on}
use Rattle.fw_rollout.proofs.serving.tell_all.Goals as goal

-- the first of those that are left
next_ended : (saved : List Ended) (i : ℕ) (ended : Ended) → i < length saved → ended ≡ get_or saved i ended → drop i saved ≡ ended ∷ drop (i + 1) saved
next_ended saved i ended inside at = drop_more saved i ended inside ∙ ap (λ (e : Ended). e ∷ drop (i + 1) saved) (sym at)

pub tell-requires : goal.tell-requires
tell-requires g c = λ h.
    let honest : IsTrue (g.P.Port.honest c.args.port.now) = subst (λ (b : Bool). IsTrue b) c.loop-ended.invariant.1 h in
    let begins = c.requires honest in
    let i = c.loop-ended.ended-index in
    let all = c.args.saved.now in
    let left = next_ended all i c.ended-item.result (omega arith) c.ended-item.is in
    may_tell (g.P.Port.legal c.args.port.now) (g.P.Port.legal c.loop-ended.port) begins.0 c.ended-item.result (drop i all) (drop (i + 1) all)
    (g.P.Port.acts c.args.port.now) (g.P.Port.acts c.loop-ended.port) c.loop-ended.invariant.2 left
    (All-drop (IsNotedIn begins.0.synced) i all begins.1.on_device) begins.2 (c.loop-ended.invariant.0 honest begins.0 begins.1)

pub loop-ended-preserved : goal.loop-ended-preserved
loop-ended-preserved g c =
    let i = c.loop-ended.ended-index in
    let all = c.args.saved.now in
    let left = next_ended all i c.ended-item.result (omega arith) c.ended-item.is in (
      λ honest start about.
          let is = subst (λ (b : Bool). IsTrue b) (sym c.loop-ended.invariant.1) honest in
          tells_on start c.ended-item.result (drop i all) (drop (i + 1) all) (g.P.Port.acts c.args.port.now) (g.P.Port.acts c.loop-ended.port)
          (g.P.Port.acts c.tell.new.self) left (All-drop (IsNotedIn start.synced) i all about.on_device)
          (c.loop-ended.invariant.0 honest start about) (c.tell.ensures.told is),
      c.tell.ensures.honesty ∙ c.loop-ended.invariant.1,
      λ done legal. c.tell.ensures.law done (c.loop-ended.invariant.2 done legal),
      λ honest.
          let is = subst (λ (b : Bool). IsTrue b) (sym c.loop-ended.invariant.1) honest in
          tells_next (g.P.Port.acts c.loop-ended.port) (g.P.Port.acts c.args.port.now) (g.P.Port.acts c.tell.new.self) c.ended-item.result (drop i all) (drop (i + 1) all) all
          (c.tell.ensures.told is) (c.loop-ended.invariant.3 honest) left,
      rows_next g.P.Port.tells all i c.ended-item.result _ _ _ (omega arith) c.ended-item.is c.loop-ended.invariant.4 c.tell.ensures.tells,
    )

pub returns-clause-told : goal.returns-clause-told
returns-clause-told g c = λ honest.
    let all = c.args.saved.now in
    let none : drop c.loop-ended.ended-index all ≡ [] = drop_all c.loop-ended.ended-index all (omega arith) in
    tells_all (g.P.Port.acts c.loop-ended.port) (g.P.Port.acts c.args.port.now) (drop c.loop-ended.ended-index all) all none (c.loop-ended.invariant.3 honest)

pub returns-clause-tells : goal.returns-clause-tells
returns-clause-tells g c = λ honest start about.
    let none : drop c.loop-ended.ended-index c.args.saved.now ≡ [] = drop_all c.loop-ended.ended-index c.args.saved.now (omega arith) in
    subst (λ (l : List Ended). Leads start (g.P.Port.acts c.args.port.now) (g.P.Port.acts c.loop-ended.port) (telling start l)) none
    (c.loop-ended.invariant.0 honest start about)

pub returns-clause-rows : goal.returns-clause-rows
returns-clause-rows g c =
    let all = c.args.saved.now in
    let whole : take c.loop-ended.ended-index all ≡ all = take_all c.loop-ended.ended-index all (omega arith) in
    subst (λ (l : List Ended). TellsRows g.P.Port.tells l c.args.port.now c.loop-ended.port) whole c.loop-ended.invariant.4
