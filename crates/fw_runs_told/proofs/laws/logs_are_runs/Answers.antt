use Rattle.fw_runs_told.proofs.Telling.{logs_are_runs}
use Rattle.fw_runs_told.proofs.laws.logs_are_runs.Goals as goal

pub returns : goal.returns
returns c = logs_are_runs c.offered_in_book.ensures
