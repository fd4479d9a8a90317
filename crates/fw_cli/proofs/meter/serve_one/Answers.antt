use Rattle.std.proofs.Common.{◌≡◌, None, Option, refl, subst}
use Rattle.std.proofs.lemmas.Result.{IfErr-weaker, err_from_is_err_and}
use Rattle.fw_host.specs.declared.meter_store.NewMeter.{NewMeter}
use Rattle.fw_host.specs.declared.sealing.SealingOptions.{SealingOptions}
use Rattle.fw_cli.specs.Faults.{MakesCounter}
use Rattle.fw_cli.specs.MeterErrors.{IsBroughtBy, IsOfSetup}
use Rattle.fw_cli.specs.Sealing.{IsKeyed}
use Rattle.fw_cli.specs.declared.meter_error.MeterFailure.{MeterFailure}
use Rattle.fw_cli.proofs.Brought.{capture_brought, counters_brought, keys_brought, sealing_brought, serving_brought, setup_brought, store_brought}
use Rattle.fw_cli.proofs.Passing.{passed_to}
use Rattle.fw_cli.proofs.meter.serve_one.Goals as goal

pub returns-in_err-port-clause-number : goal.returns-in_err-port-clause-number
returns-in_err-port-clause-number g c =
    let passed = err_from_is_err_and c.from_residual.result c.from_residual.ensures.1 in
    passed_to c.from_residual.result (λ (f : MeterFailure). f.number ≡ None) passed.0 _ passed.1 passed.2 refl

pub returns-in_err-port-clause-asked : goal.returns-in_err-port-clause-asked
returns-in_err-port-clause-asked g c =
    let passed = err_from_is_err_and c.from_residual.result c.from_residual.ensures.1 in
    passed_to c.from_residual.result (λ (f : MeterFailure). IsBroughtBy c.args.options.now f.error) passed.0 _ passed.1 passed.2 tt

pub returns-in_err-keyed-clause-number : goal.returns-in_err-keyed-clause-number
returns-in_err-keyed-clause-number g c =
    let passed = err_from_is_err_and c.from_residual-in_err-keyed.result c.from_residual-in_err-keyed.ensures.1 in
    passed_to c.from_residual-in_err-keyed.result (λ (f : MeterFailure). f.number ≡ None) passed.0 _ passed.1 passed.2 refl

pub returns-in_err-keyed-clause-asked : goal.returns-in_err-keyed-clause-asked
returns-in_err-keyed-clause-asked g c =
    let passed = err_from_is_err_and c.from_residual-in_err-keyed.result c.from_residual-in_err-keyed.ensures.1 in
    passed_to c.from_residual-in_err-keyed.result (λ (f : MeterFailure). IsBroughtBy c.args.options.now f.error) passed.0 _ passed.1 passed.2 (keys_brought c.args.options.now c.in_err-keyed.field-0.0.error c.in_err-keyed.ensures.keyed)

pub returns-in_err-judged-clause-number : goal.returns-in_err-judged-clause-number
returns-in_err-judged-clause-number g c =
    let passed = err_from_is_err_and c.from_residual-in_err-judged.result c.from_residual-in_err-judged.ensures.1 in
    let same : passed.0 ≡ c.in_err-judged.field-0.0 = cc passed.2 in
    passed_to c.from_residual-in_err-judged.result (λ (f : MeterFailure). f.number ≡ None) passed.0 _ passed.1 same c.in_err-judged.ensures.number

pub returns-in_err-judged-clause-asked : goal.returns-in_err-judged-clause-asked
returns-in_err-judged-clause-asked g c =
    let passed = err_from_is_err_and c.from_residual-in_err-judged.result c.from_residual-in_err-judged.ensures.1 in
    let same : passed.0 ≡ c.in_err-judged.field-0.0 = cc passed.2 in
    passed_to c.from_residual-in_err-judged.result (λ (f : MeterFailure). IsBroughtBy c.args.options.now f.error) passed.0 _ passed.1 same (setup_brought c.args.options.now c.in_err-judged.field-0.0.error (subst (λ (n : NewMeter). IsOfSetup n c.in_err-judged.field-0.0.error) c.of-judge.ensures c.in_err-judged.ensures.asked))

pub returns-in_err-links-clause-number : goal.returns-in_err-links-clause-number
returns-in_err-links-clause-number g c =
    let passed = err_from_is_err_and c.from_residual-in_err-links.result c.from_residual-in_err-links.ensures.1 in
    passed_to c.from_residual-in_err-links.result (λ (f : MeterFailure). f.number ≡ None) passed.0 _ passed.1 passed.2 refl

pub returns-in_err-links-clause-asked : goal.returns-in_err-links-clause-asked
returns-in_err-links-clause-asked g c =
    let passed = err_from_is_err_and c.from_residual-in_err-links.result c.from_residual-in_err-links.ensures.1 in
    passed_to c.from_residual-in_err-links.result (λ (f : MeterFailure). IsBroughtBy c.args.options.now f.error) passed.0 _ passed.1 passed.2 (sealing_brought c.args.options.now c.in_err-links.field-0.0.error (subst (λ (s : Option SealingOptions). IsKeyed s c.in_err-links.field-0.0.error) c.in_ok-keyed.ensures.options c.in_err-links.ensures.keyed))

pub returns-in_err-strangers-clause-number : goal.returns-in_err-strangers-clause-number
returns-in_err-strangers-clause-number g c =
    let passed = err_from_is_err_and c.from_residual-in_err-strangers.result c.from_residual-in_err-strangers.ensures.1 in
    passed_to c.from_residual-in_err-strangers.result (λ (f : MeterFailure). f.number ≡ None) passed.0 _ passed.1 passed.2 refl

pub returns-in_err-strangers-clause-asked : goal.returns-in_err-strangers-clause-asked
returns-in_err-strangers-clause-asked g c =
    let passed = err_from_is_err_and c.from_residual-in_err-strangers.result c.from_residual-in_err-strangers.ensures.1 in
    passed_to c.from_residual-in_err-strangers.result (λ (f : MeterFailure). IsBroughtBy c.args.options.now f.error) passed.0 _ passed.1 passed.2 tt

pub returns-in_err-heads-clause-number : goal.returns-in_err-heads-clause-number
returns-in_err-heads-clause-number g c =
    let passed = err_from_is_err_and c.from_residual-in_err-heads.result c.from_residual-in_err-heads.ensures.1 in
    passed_to c.from_residual-in_err-heads.result (λ (f : MeterFailure). f.number ≡ None) passed.0 _ passed.1 passed.2 refl

pub returns-in_err-heads-clause-asked : goal.returns-in_err-heads-clause-asked
returns-in_err-heads-clause-asked g c =
    let passed = err_from_is_err_and c.from_residual-in_err-heads.result c.from_residual-in_err-heads.ensures.1 in
    passed_to c.from_residual-in_err-heads.result (λ (f : MeterFailure). IsBroughtBy c.args.options.now f.error) passed.0 _ passed.1 passed.2 tt

pub returns-in_err-file-clause-number : goal.returns-in_err-file-clause-number
returns-in_err-file-clause-number g c =
    let passed = err_from_is_err_and c.from_residual-in_err-file.result c.from_residual-in_err-file.ensures.1 in
    passed_to c.from_residual-in_err-file.result (λ (f : MeterFailure). f.number ≡ None) passed.0 _ passed.1 passed.2 refl

pub returns-in_err-file-clause-asked : goal.returns-in_err-file-clause-asked
returns-in_err-file-clause-asked g c =
    let passed = err_from_is_err_and c.from_residual-in_err-file.result c.from_residual-in_err-file.ensures.1 in
    passed_to c.from_residual-in_err-file.result (λ (f : MeterFailure). IsBroughtBy c.args.options.now f.error) passed.0 _ passed.1 passed.2 (capture_brought c.args.options.now c.in_err-file.field-0.0.error c.in_err-file.ensures.asked)

pub returns-in_err-sealing-clause-number : goal.returns-in_err-sealing-clause-number
returns-in_err-sealing-clause-number g c =
    let passed = err_from_is_err_and c.from_residual-in_err-sealing.result c.from_residual-in_err-sealing.ensures.1 in
    passed_to c.from_residual-in_err-sealing.result (λ (f : MeterFailure). f.number ≡ None) passed.0 _ passed.1 passed.2 refl

pub returns-in_err-sealing-clause-asked : goal.returns-in_err-sealing-clause-asked
returns-in_err-sealing-clause-asked g c =
    let passed = err_from_is_err_and c.from_residual-in_err-sealing.result c.from_residual-in_err-sealing.ensures.1 in
    passed_to c.from_residual-in_err-sealing.result (λ (f : MeterFailure). IsBroughtBy c.args.options.now f.error) passed.0 _ passed.1 passed.2 (counters_brought c.args.options.now c.in_err-sealing.field-0.0.error (subst MakesCounter c.in_ok-keyed.ensures.options (c.in_ok-links.ensures.makes c.in_err-sealing.ensures.made)))

pub returns-in_err-meter-clause-number : goal.returns-in_err-meter-clause-number
returns-in_err-meter-clause-number g c =
    let passed = err_from_is_err_and c.from_residual-in_err-meter.result c.from_residual-in_err-meter.ensures.1 in
    passed_to c.from_residual-in_err-meter.result (λ (f : MeterFailure). f.number ≡ None) passed.0 _ passed.1 passed.2 refl

pub returns-in_err-meter-clause-asked : goal.returns-in_err-meter-clause-asked
returns-in_err-meter-clause-asked g c =
    let passed = err_from_is_err_and c.from_residual-in_err-meter.result c.from_residual-in_err-meter.ensures.1 in
    passed_to c.from_residual-in_err-meter.result (λ (f : MeterFailure). IsBroughtBy c.args.options.now f.error) passed.0 _ passed.1 passed.2 (store_brought c.args.options.now c.in_err-meter.field-0.0.error)

pub returns-clause-asked : goal.returns-clause-asked
returns-clause-asked g c = IfErr-weaker c.serve_daemon.result _ _ (λ f is. serving_brought c.args.options.now f.error is) c.serve_daemon.ensures.asked
