use Rattle.fw_fleet_audit.proofs.Biting.{done_has_switched}
use Rattle.fw_fleet_audit.proofs.laws.done_has_switched.Goals as goal

pub returns : goal.returns
returns c = done_has_switched
