use Rattle.std.proofs.Common.{◌≡◌, None, Some}
use Rattle.std.proofs.lemmas.Result.{IfErr-weaker, err_from_is_err_and}
use Rattle.fw_cli.specs.MeterErrors.{IsBroughtBy, IsOfServing, NamesMeter}
use Rattle.fw_cli.specs.declared.meter_error.MeterFailure.{MeterFailure}
use Rattle.fw_cli.proofs.Brought.{capture_brought, capture_names, members_brought, ports_brought, serving_brought, serving_names, setup_brought}
use Rattle.fw_cli.proofs.Passing.{err_both, passed_to}
use Rattle.fw_cli.proofs.fleet.serve_fleet.Goals as goal

pub returns-in_err-ports-clause-asked : goal.returns-in_err-ports-clause-asked
returns-in_err-ports-clause-asked g c =
    let passed = err_from_is_err_and c.from_residual.result c.from_residual.ensures.1 in
    let same : passed.0 ≡ c.in_err-ports.field-0.0 = cc passed.2 in
    passed_to c.from_residual.result (λ (f : MeterFailure). IsBroughtBy c.args.options.now f.error) passed.0 _ passed.1 same
    (ports_brought c.args.options.now c.in_err-ports.field-0.0.error c.in_err-ports.ensures.errors)

pub returns-in_err-sites-clause-asked : goal.returns-in_err-sites-clause-asked
returns-in_err-sites-clause-asked g c =
    let passed = err_from_is_err_and c.from_residual-in_err-sites.result c.from_residual-in_err-sites.ensures.1 in
    let same : passed.0 ≡ c.in_err-sites.field-0.0 = cc passed.2 in
    passed_to c.from_residual-in_err-sites.result (λ (f : MeterFailure). IsBroughtBy c.args.options.now f.error) passed.0 _ passed.1 same
    (setup_brought c.args.options.now c.in_err-sites.field-0.0.error c.in_err-sites.ensures.asked)

pub returns-in_err-file-clause-number : goal.returns-in_err-file-clause-number
returns-in_err-file-clause-number g c =
    let passed = err_from_is_err_and c.from_residual-in_err-file.result c.from_residual-in_err-file.ensures.1 in
    passed_to c.from_residual-in_err-file.result (λ (f : MeterFailure). NamesMeter (Some c.args.count) f) passed.0 _ passed.1 passed.2
    (capture_names c.args.count c.in_err-file.field-0.0.error c.in_err-file.field-0.0.reason)

pub returns-in_err-file-clause-asked : goal.returns-in_err-file-clause-asked
returns-in_err-file-clause-asked g c =
    let passed = err_from_is_err_and c.from_residual-in_err-file.result c.from_residual-in_err-file.ensures.1 in
    passed_to c.from_residual-in_err-file.result (λ (f : MeterFailure). IsBroughtBy c.args.options.now f.error) passed.0 _ passed.1 passed.2
    (capture_brought c.args.options.now c.in_err-file.field-0.0.error c.in_err-file.ensures.asked)

pub returns-in_err-members-clause-asked : goal.returns-in_err-members-clause-asked
returns-in_err-members-clause-asked g c =
    let passed = err_from_is_err_and c.from_residual-in_err-members.result c.from_residual-in_err-members.ensures.1 in
    let same : passed.0 ≡ c.in_err-members.field-0.0 = cc passed.2 in
    passed_to c.from_residual-in_err-members.result (λ (f : MeterFailure). IsBroughtBy c.args.options.now f.error) passed.0 _ passed.1 same
    (members_brought c.args.options.now c.in_err-members.field-0.0.error c.in_err-members.ensures.errors)

pub returns-clause-number : goal.returns-clause-number
returns-clause-number g c =
    err_both c.serve_members.result (λ (f : MeterFailure). f.number ≡ None) (λ (f : MeterFailure). IsOfServing c.args.options.now.capture c.args.options.now.sealing f.error)
    (NamesMeter (Some c.args.count)) (λ f none is. serving_names c.args.options.now.capture c.args.options.now.sealing c.args.count f none is) c.serve_members.ensures.number
    c.serve_members.ensures.asked

pub returns-clause-asked : goal.returns-clause-asked
returns-clause-asked g c = IfErr-weaker c.serve_members.result _ _ (λ f is. serving_brought c.args.options.now f.error is) c.serve_members.ensures.asked
