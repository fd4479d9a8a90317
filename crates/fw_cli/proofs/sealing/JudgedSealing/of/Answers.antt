use Rattle.std.proofs.Common.{◌≡◌, Option, subst, sym}
use Rattle.std.proofs.lemmas.Result.{err_from_is_err_and}
use Rattle.fw_disk.specs.declared.reason.Because.{Because}
use Rattle.fw_cli.specs.Faults.{FindsCounter, MakesCounter}
use Rattle.fw_cli.specs.Sealing.{IsKeyed, options_of}
use Rattle.fw_cli.specs.declared.error.SealingError.{SealingError}
use Rattle.fw_cli.specs.declared.sealing.Keyed.{Keyed}
use Rattle.fw_cli.proofs.Passing.{passed_to}
use Rattle.fw_cli.proofs.sealing.JudgedSealing.of.Goals as goal

pub returns-in_err-check_new-clause-keyed : goal.returns-in_err-check_new-clause-keyed
returns-in_err-check_new-clause-keyed g c =
    let passed = err_from_is_err_and c.from_residual.result c.from_residual.ensures.1 in
    let same : passed.0 ≡ c.in_err-check_new.field-0.0 = cc passed.2 in
    let makes : MakesCounter (options_of c.args.keyed) = subst (λ (k : Option Keyed). MakesCounter (options_of k)) (sym c.in-Some.is) c.if-options.true in
    passed_to c.from_residual.result (λ (b : Because SealingError). IsKeyed (options_of c.args.keyed) b.error) passed.0 _ passed.1 same (c.in_err-check_new.ensures (options_of c.args.keyed) makes)

pub returns-in_err-counters-clause-keyed : goal.returns-in_err-counters-clause-keyed
returns-in_err-counters-clause-keyed g c =
    let passed = err_from_is_err_and c.from_residual-in_err-counters.result c.from_residual-in_err-counters.ensures.1 in
    let same : passed.0 ≡ c.in_err-counters.field-0.0 = cc passed.2 in
    let finds : FindsCounter (options_of c.args.keyed) = subst (λ (k : Option Keyed). FindsCounter (options_of k)) (sym c.in-Some.is) c.if-options.false in
    passed_to c.from_residual-in_err-counters.result (λ (b : Because SealingError). IsKeyed (options_of c.args.keyed) b.error) passed.0 _ passed.1 same (c.in_err-counters.ensures (options_of c.args.keyed) finds)
