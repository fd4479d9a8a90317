use Rattle.std.proofs.Common.{ap, Err}
use Rattle.fw_journal.specs.declared.error.JournalError.{JournalError}
use Rattle.fw_journal.proofs.journal.Journal.open.Goals as goal

pub returns-in-Err-clause-bad : goal.returns-in-Err-clause-bad
returns-in-Err-clause-bad g c = λ honest offset is. c.in-Err.ensures.bad honest offset (ap (λ (e : JournalError). Err e) is)
