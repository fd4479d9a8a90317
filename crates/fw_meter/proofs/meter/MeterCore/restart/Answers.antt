use Rattle.std.proofs.Common.{◌≡◌, Option, true, sym, ap, subst, ◌∙◌}
use Rattle.std.proofs.lemmas.Result.{IfOk-weaker}
use Rattle.fw_store.specs.Faults.{Spends}
use Rattle.fw_store.specs.declared.fuse.Fuse.{Fuse}
use Rattle.fw_image.specs.Calls.{restart_calls}
use Rattle.fw_image.specs.State.{State, stored}
use Rattle.fw_image.specs.Stored.{Holds, Opens}
use Rattle.fw_meter.specs.Private.{state_there}
use Rattle.fw_meter.proofs.Restarts.{goes_on, found_calls}
use Rattle.fw_meter.proofs.meter.MeterCore.restart.Goals as goal

pub returns-clause-same : goal.returns-clause-same
returns-clause-same g c = λ honest.
    let store = g.S.ImageStore.known c.into_store.result in
    let self : State = c.args.self in
    let was = ap state_there (sym c.in-Some.is) ∙ c.self.view_is in
    let left : Holds store (stored self) = subst (λ (x : State). Holds store (stored x)) was c.into_store.ensures.held in
    IfOk-weaker c.open_store.result (Opens store) _
    (λ meter opened. goes_on store self meter c.one_meter.ensures left opened honest) c.open_store.ensures.opened

pub returns-clause-spends : goal.returns-clause-spends
returns-clause-spends g c =
    let store = g.S.ImageStore.known c.into_store.result in
    let self : State = c.args.self in
    let was = ap state_there (sym c.in-Some.is) ∙ c.self.view_is in
    let left : Holds store (stored self) = subst (λ (x : State). Holds store (stored x)) was c.into_store.ensures.held in
    let calls : store.fuse ≡ self.fuse = c.into_store.ensures.fuse ∙ ap (λ (x : State). x.fuse) was in
    IfOk-weaker c.open_store.result (Opens store) _ (λ meter opened. (
      opened.was,
      opened.goes_on,
      λ honest. found_calls store self meter c.one_meter.ensures left opened honest,
      subst (λ (n : Option Fuse). Spends (restart_calls opened.was) n meter.fuse true) calls opened.spends,
    )) c.open_store.ensures.opened
