use Rattle.fw_sealed.proofs.Sealed.{moves_are_moves}
use Rattle.fw_sealed.proofs.laws.sealed_moves_are_moves.Goals as goal

pub returns : goal.returns
returns c = moves_are_moves c.sent_stays.ensures
