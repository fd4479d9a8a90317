use Rattle.std.proofs.Common.{inl}
use Rattle.fw_cli.proofs.Answered.{file_first, file_no_memory, file_no_setup}
use Rattle.fw_cli.proofs.stored.set_up.Goals as goal

pub returns-in-Err-clause-bad_setup : goal.returns-in-Err-clause-bad_setup
returns-in-Err-clause-bad_setup g c = λ setup. absurd (file_no_setup c.in-Err.because.error c.not_opened.result.error c.not_opened.ensures.error setup)

pub returns-in-Err-clause-memory : goal.returns-in-Err-clause-memory
returns-in-Err-clause-memory g c = λ memory. absurd (file_no_memory c.in-Err.because.error c.not_opened.result.error c.not_opened.ensures.error memory)

pub returns-in-Err-clause-faults : goal.returns-in-Err-clause-faults
returns-in-Err-clause-faults g c = inl (file_first c.in-Err.because.error c.not_opened.result.error c.not_opened.ensures.error)
