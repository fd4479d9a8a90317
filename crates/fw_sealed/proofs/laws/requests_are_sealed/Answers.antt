use Rattle.fw_sealed.proofs.Ports.{requests_are_sealed}
use Rattle.fw_sealed.proofs.laws.requests_are_sealed.Goals as goal

pub returns : goal.returns
returns c = requests_are_sealed
