use Rattle.fw_world.proofs.Openings.{is_opening}
use Rattle.fw_world.proofs.laws.setup_opens.Goals as goal

pub returns : goal.returns
returns c = is_opening
