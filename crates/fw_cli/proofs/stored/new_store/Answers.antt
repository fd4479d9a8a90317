use Rattle.std.proofs.Common.{◌≡◌, ◌∙◌, ap, Err}
use Rattle.std.proofs.lemmas.Result.{err_from_is_err_and}
use Rattle.fw_store.specs.declared.error.SetupError.TheVariants.{BadSetup}
use Rattle.fw_cli.proofs.stored.new_store.Goals as goal

pub returns-then-not-describes_one-clause-bad_setup : goal.returns-then-not-describes_one-clause-bad_setup
returns-then-not-describes_one-clause-bad_setup c = λ _. c.describes_one.ensures.none c.if-not-describes_one.true

pub returns-in_err-block_size-clause-bad_setup : goal.returns-in_err-block_size-clause-bad_setup
returns-in_err-block_size-clause-bad_setup c = λ bad.
    let passed = err_from_is_err_and c.from_residual.result c.from_residual.ensures.1 in
    let cause : c.in_err-block_size.field-0.0 ≡ BadSetup = cc (passed.1, passed.2, bad) in
    c.setup_of.ensures.bad_setup (c.in_err-block_size.was ∙ ap Err cause)

pub returns-in_err-block_size-clause-memory : goal.returns-in_err-block_size-clause-memory
returns-in_err-block_size-clause-memory c = λ _. c.describes_one.ensures.one c.if-not-describes_one.false

pub returns-in-Some-clause-described : goal.returns-in-Some-clause-described
returns-in-Some-clause-described c = c.describes_one.ensures.one c.if-not-describes_one.false
