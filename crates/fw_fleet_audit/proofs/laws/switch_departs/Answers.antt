use Rattle.fw_fleet_audit.proofs.Departing.{switch_departs}
use Rattle.fw_fleet_audit.proofs.laws.switch_departs.Goals as goal

pub returns : goal.returns
returns c = switch_departs
