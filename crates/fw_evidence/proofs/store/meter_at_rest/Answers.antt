use Rattle.std.proofs.Common.{rules, List, ℕ, inl, subst}
use Rattle.std.proofs.lemmas.Result.{IfErr-weaker, IfOk-weaker}
use Rattle.fw_image.specs.State.{State}
use Rattle.fw_evidence.specs.Stores.{HoldsMeter, HoldsNone, IsAtRest, IsNoMeter}
use Rattle.fw_evidence.specs.declared.error.StoreRefusal.{StoreRefusal}
use Rattle.fw_evidence.proofs.Opening.{none_made}
use Rattle.fw_evidence.proofs.store.meter_at_rest.Goals as goal

pub returns-clause-meter : goal.returns-clause-meter
returns-clause-meter c =
    let store = c.args.store.items in
    let undo = c.args.undo.now in
    let made = c.in-Ok.made.items in
    IfOk-weaker c.meter_in.result (λ (m : State). HoldsMeter c.deref.result.now m.meter) (λ (m : State). IsAtRest store undo m.meter)
    (λ m is. record { made = made; recovered = c.in-Ok.ensures.recovered; holds = subst (λ (b : List ℕ). HoldsMeter b m.meter) c.deref.ensures.value is })
    c.meter_in.ensures.meter

pub returns-clause-refused : goal.returns-clause-refused
returns-clause-refused c =
    let store = c.args.store.items in
    let undo = c.args.undo.now in
    let made = c.in-Ok.made.items in
    IfErr-weaker c.meter_in.result (λ (e : StoreRefusal). HoldsNone c.deref.result.now e) (λ (e : StoreRefusal). IsNoMeter store undo e)
    (λ e is. none_made store undo made e c.in-Ok.ensures.recovered (subst (λ (b : List ℕ). HoldsNone b e) c.deref.ensures.value is))
    c.meter_in.ensures.refused

pub returns-in-Err-OutOfMemory-clause-refused : goal.returns-in-Err-OutOfMemory-clause-refused
returns-in-Err-OutOfMemory-clause-refused c = inl (c.in-Err-OutOfMemory.ensures.torn (search rules))
