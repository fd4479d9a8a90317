use Rattle.fw_audit.proofs.Bites.{fronts_are_logs}
use Rattle.fw_audit.proofs.laws.fronts_are_logs.Goals as goal

pub returns : goal.returns
returns c = fronts_are_logs
