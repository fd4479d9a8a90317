use Rattle.std.proofs.Common.{◌∙◌, Option, subst}
use Rattle.std.proofs.lemmas.Result.{err_from_is_err_and}
use Rattle.fw_host.specs.declared.sealing.SealingOptions.{SealingOptions}
use Rattle.fw_cli.specs.Faults.{MakesCounter}
use Rattle.fw_cli.specs.HeadErrors.{IsAskedFor}
use Rattle.fw_cli.specs.Sealing.{IsKeyed}
use Rattle.fw_cli.specs.declared.head_error.HeadFailure.{HeadFailure}
use Rattle.fw_cli.proofs.Begun.{changes_of_new}
use Rattle.fw_cli.proofs.HeadLeading.{capture_is_asked, counters_are_asked, new_is_asked, sealing_is_asked}
use Rattle.fw_cli.proofs.Passing.{passed_to}
use Rattle.fw_cli.proofs.head.made_head.Goals as goal

pub returns-in_err-links-clause-asked : goal.returns-in_err-links-clause-asked
returns-in_err-links-clause-asked g c =
    let passed = err_from_is_err_and c.from_residual.result c.from_residual.ensures.1 in
    passed_to c.from_residual.result (λ (f : HeadFailure). IsAskedFor c.args.options.now f.error) passed.0 _ passed.1 passed.2 (sealing_is_asked c.args.options.now c.in_err-links.field-0.0.error (subst (λ (s : Option SealingOptions). IsKeyed s c.in_err-links.field-0.0.error) c.requires.keyed c.in_err-links.ensures.keyed))

pub returns-in_err-file-clause-asked : goal.returns-in_err-file-clause-asked
returns-in_err-file-clause-asked g c =
    let passed = err_from_is_err_and c.from_residual-in_err-file.result c.from_residual-in_err-file.ensures.1 in
    passed_to c.from_residual-in_err-file.result (λ (f : HeadFailure). IsAskedFor c.args.options.now f.error) passed.0 _ passed.1 passed.2 (capture_is_asked c.args.options.now c.in_err-file.field-0.0.error c.in_err-file.ensures.asked)

pub returns-in_err-sealing-clause-asked : goal.returns-in_err-sealing-clause-asked
returns-in_err-sealing-clause-asked g c =
    let passed = err_from_is_err_and c.from_residual-in_err-sealing.result c.from_residual-in_err-sealing.ensures.1 in
    passed_to c.from_residual-in_err-sealing.result (λ (f : HeadFailure). IsAskedFor c.args.options.now f.error) passed.0 _ passed.1 passed.2 (counters_are_asked c.args.options.now c.in_err-sealing.field-0.0.error (subst MakesCounter c.requires.keyed (c.in_ok-links.ensures.makes c.in_err-sealing.ensures.made)))

pub returns-in_err-made-clause-asked : goal.returns-in_err-made-clause-asked
returns-in_err-made-clause-asked g c =
    let passed = err_from_is_err_and c.from_residual-in_err-made.result c.from_residual-in_err-made.ensures.1 in
    passed_to c.from_residual-in_err-made.result (λ (f : HeadFailure). IsAskedFor c.args.options.now f.error) passed.0 _ passed.1 passed.2 (new_is_asked c.args.options.now c.in_err-made.field-0.0.error c.requires.is_new)

pub returns-clause-changes : goal.returns-clause-changes
returns-clause-changes g c = changes_of_new _ _ _ _ _ _ _ c.in_ok-made.ensures.new c.requires.changes

pub returns-clause-links : goal.returns-clause-links
returns-clause-links g c = c.in_ok-sealing.ensures.links ∙ c.in_ok-links.ensures.links
