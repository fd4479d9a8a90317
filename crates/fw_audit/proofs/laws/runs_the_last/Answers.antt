use Rattle.fw_audit.proofs.Running.{runs_the_last}
use Rattle.fw_audit.proofs.laws.runs_the_last.Goals as goal

pub returns : goal.returns
returns c = runs_the_last
