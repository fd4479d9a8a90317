use Rattle.fw_cli.proofs.Answered.{file_first, file_no_setup}
use Rattle.fw_cli.proofs.stored.made_of.Goals as goal

pub returns-in-Err-clause-file : goal.returns-in-Err-clause-file
returns-in-Err-clause-file g c = λ setup. file_no_setup c.in-Err.because.error c.not_opened.result.error c.not_opened.ensures.error setup

pub returns-in-Err-clause-first : goal.returns-in-Err-clause-first
returns-in-Err-clause-first g c = file_first c.in-Err.because.error c.not_opened.result.error c.not_opened.ensures.error
