use Rattle.std.proofs.Common.{◌≡◌, ℕ}
use Rattle.std.proofs.lemmas.Result.{IfOk-weaker}
use Rattle.fw_auditor.specs.Fitting.{AllFit}
use Rattle.fw_auditor.specs.Private.{FieldFits, FleetFits}
use Rattle.fw_auditor.proofs.Fitted.{field_fits, fleet_fits}
use Rattle.fw_auditor.proofs.audit.tell_all.Goals as goal

pub returns-then-has_heads : goal.returns-then-has_heads
returns-then-has_heads g c =
    let given = c.args.given.now in
    IfOk-weaker c.tell_field.result (λ (departed : ℕ). departed ≡ 0 → FieldFits given) (λ (departed : ℕ). departed ≡ 0 → AllFit given.options.now)
    (λ departed fits none. field_fits c.headline_by_looking.ensures given c.requires (fits none)) c.tell_field.ensures

pub returns : goal.returns
returns g c =
    let given = c.args.given.now in
    IfOk-weaker c.tell_fleet.result (λ (departed : ℕ). departed ≡ 0 → FleetFits given) (λ (departed : ℕ). departed ≡ 0 → AllFit given.options.now)
    (λ departed fits none. fleet_fits c.headline_by_looking.ensures given c.requires (c.has_heads.ensures c.if-has_heads.false) (fits none)) c.tell_fleet.ensures
