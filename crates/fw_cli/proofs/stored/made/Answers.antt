use Rattle.std.proofs.Common.{◌∙◌, Err, ap, inl}
use Rattle.std.proofs.lemmas.Result.{IfErr-weaker}
use Rattle.fw_store.specs.declared.error.SetupError.{SetupError}
use Rattle.fw_cli.proofs.stored.made.Goals as goal

pub returns-in-Ok-clause-bad_setup : goal.returns-in-Ok-clause-bad_setup
returns-in-Ok-clause-bad_setup g c = IfErr-weaker c.made_of.result _ _ (λ b other setup. absurd (other setup)) c.made_of.ensures.file

pub returns-in-Ok-clause-described : goal.returns-in-Ok-clause-described
returns-in-Ok-clause-described g c = IfErr-weaker c.made_of.result _ _ (λ b other setup. c.in-Ok.ensures.described) c.made_of.ensures.file

pub returns-in-Ok-clause-faults : goal.returns-in-Ok-clause-faults
returns-in-Ok-clause-faults g c = IfErr-weaker c.made_of.result _ _ (λ b early. inl early) c.made_of.ensures.first

pub returns-in-Err-BadSetup-clause-bad_setup : goal.returns-in-Err-BadSetup-clause-bad_setup
returns-in-Err-BadSetup-clause-bad_setup g c = λ _.
    c.new_store.ensures.bad_setup (c.in-Err-BadSetup.is ∙ ap (λ (e : SetupError). Err e) c.in-Err-BadSetup.field-0-is)

pub returns-in-Err-OutOfMemory-clause-described : goal.returns-in-Err-OutOfMemory-clause-described
returns-in-Err-OutOfMemory-clause-described g c = λ _.
    c.new_store.ensures.memory (c.in-Err-OutOfMemory.is ∙ ap (λ (e : SetupError). Err e) c.in-Err-OutOfMemory.field-0-is)
