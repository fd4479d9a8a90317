use Rattle.std.proofs.Common.{◌∙◌, Err, ap}
use Rattle.fw_store.specs.declared.error.SetupError.{SetupError}
use Rattle.fw_cli.proofs.Honest.{writes}
use Rattle.fw_cli.proofs.Turns.{on_ok}
use Rattle.fw_cli.proofs.answer.run_answer.Goals as goal

pub returns-in-Err-BadSetup-clause-bad_setup : goal.returns-in-Err-BadSetup-clause-bad_setup
returns-in-Err-BadSetup-clause-bad_setup g c = λ _.
    c.set_up.ensures.bad_setup (c.in-Err-BadSetup.is ∙ ap (λ (e : SetupError). Err e) c.in-Err-BadSetup.field-0-is)

pub returns-in-Err-OutOfMemory-clause-memory : goal.returns-in-Err-OutOfMemory-clause-memory
returns-in-Err-OutOfMemory-clause-memory g c = λ _.
    c.set_up.ensures.memory (c.in-Err-OutOfMemory.is ∙ ap (λ (e : SetupError). Err e) c.in-Err-OutOfMemory.field-0-is)

pub returns-in-Err-OutOfMemory-clause-setup_refused : goal.returns-in-Err-OutOfMemory-clause-setup_refused
returns-in-Err-OutOfMemory-clause-setup_refused g c = λ none.
    let one = c.set_up.ensures.memory (c.in-Err-OutOfMemory.is ∙ ap (λ (e : SetupError). Err e) c.in-Err-OutOfMemory.field-0-is) in
    absurd (none one.0 one.1)

pub returns-in-Ok-clause-setup_refused : goal.returns-in-Ok-clause-setup_refused
returns-in-Ok-clause-setup_refused g c = λ none. absurd (none c.in-Ok.meter.meter c.in-Ok.ensures.ok)

pub returns-in-Ok-clause-memory : goal.returns-in-Ok-clause-memory
returns-in-Ok-clause-memory g c = λ _. (c.in-Ok.meter.meter, c.in-Ok.ensures.ok)

pub returns-in-Ok-clause-ok : goal.returns-in-Ok-clause-ok
returns-in-Ok-clause-ok g c =
    on_ok c.serve.result _ _
    (λ serves. (c.in-Ok.meter.meter, c.in-Ok.ensures.ok, writes c.faultless.ensures c.in-Ok.meter _ _ _ _ _ c.in-Ok.ensures.honest c.in-Ok.ensures.sound serves))
    c.serve.ensures.ok

pub returns-in-Ok-clause-bad_line : goal.returns-in-Ok-clause-bad_line
returns-in-Ok-clause-bad_line g c = λ number bad. (
  c.in-Ok.meter.meter,
  c.in-Ok.ensures.ok,
  writes c.faultless.ensures c.in-Ok.meter _ _ _ _ _ c.in-Ok.ensures.honest c.in-Ok.ensures.sound (c.serve.ensures.bad_line number bad),
)
