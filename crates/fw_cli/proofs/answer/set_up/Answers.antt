use Rattle.fw_cli.proofs.answer.set_up.Goals as goal

pub returns-in-Err-OutOfMemory-clause-bad_setup : goal.returns-in-Err-OutOfMemory-clause-bad_setup
returns-in-Err-OutOfMemory-clause-bad_setup c = λ _. c.describes_one.ensures.none c.if-not-describes_one.true

pub returns-in_default-clause-memory : goal.returns-in_default-clause-memory
returns-in_default-clause-memory c = λ _. c.describes_one.ensures.one c.if-not-describes_one.false
