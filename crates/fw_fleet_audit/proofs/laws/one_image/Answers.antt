use Rattle.fw_fleet_audit.proofs.Biting.{one_image}
use Rattle.fw_fleet_audit.proofs.laws.one_image.Goals as goal

pub returns : goal.returns
returns c = one_image
