use Rattle.fw_fleet_audit.proofs.Departing.{row_departs}
use Rattle.fw_fleet_audit.proofs.laws.row_departs.Goals as goal

pub returns : goal.returns
returns c = row_departs
