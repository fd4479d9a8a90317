use Rattle.fw_fleet_audit.proofs.Biting.{each_may_stand}
use Rattle.fw_fleet_audit.proofs.laws.each_may_stand.Goals as goal

pub returns : goal.returns
returns c = each_may_stand
