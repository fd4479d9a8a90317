use Rattle.fw_sealed.proofs.Ports.{answers_are_sealed}
use Rattle.fw_sealed.proofs.laws.answers_are_sealed.Goals as goal

pub returns : goal.returns
returns c = answers_are_sealed
