use Rattle.std.proofs.Common.{List, ℕ, [], ap, subst, sym}
use Rattle.std.specs.Prelude.{is_some, ◌≢◌}
use Rattle.std.proofs.lemmas.Result.{IfErr-weaker, on_ok_weaker}
use Rattle.fw_cli.specs.HeadErrors.{IsOfBeginning, IsOfOpening}
use Rattle.fw_cli.proofs.Begun.{begins_none, begins_some}
use Rattle.fw_cli.proofs.HeadLeading.{cancelling, opening}
use Rattle.fw_cli.proofs.Sayings.{changes_on}
use Rattle.fw_cli.proofs.beginning.cancel_and_open.Goals as goal

pub returns-in-Err-clause-faults : goal.returns-in-Err-clause-faults
returns-in-Err-clause-faults g c =
    let some = subst (λ (l : List ℕ). l ≢ []) c.deref.ensures.value c.in-Err.ensures.some in
    subst (IsOfBeginning c.args.changes.now.cancels.items c.args.opened) (sym c.not_cancelled.ensures)
    (cancelling c.args.changes.now.cancels.items c.args.opened c.in-Err.error some)

pub returns-in-Some-clause-begins : goal.returns-in-Some-clause-begins
returns-in-Some-clause-begins g c =
    on_ok_weaker c.open_all.result
    (λ opens. begins_some c.args.changes.now c.args.opened c.in-Some.opened _ _ _ _ _ c.in-Some.is c.deref.ensures.value c.deref-in-Some.ensures.value
    c.in-Ok.ensures.cancelled opens)
    c.open_all.ensures.opened

pub returns-in-Some-clause-told : goal.returns-in-Some-clause-told
returns-in-Some-clause-told g c = changes_on _ _ _ _ _ _ _ _ _ c.cancel_each.ensures.told c.open_all.ensures.told

pub returns-in-Some-clause-faults : goal.returns-in-Some-clause-faults
returns-in-Some-clause-faults g c =
    IfErr-weaker c.open_all.result IsOfOpening (IsOfBeginning c.args.changes.now.cancels.items c.args.opened)
    (λ f is. opening c.args.changes.now.cancels.items c.args.opened f (ap is_some c.in-Some.is) is) c.open_all.ensures.faults

pub returns-in-None-clause-begins : goal.returns-in-None-clause-begins
returns-in-None-clause-begins g c =
    begins_none c.args.changes.now c.args.opened _ _ _ c.in-None.is c.deref.ensures.value c.in-Ok.ensures.cancelled
