use Rattle.fw_sealed.proofs.Ports.{sealed_leading}
use Rattle.fw_sealed.proofs.laws.sealed_leading_is_moves.Goals as goal

pub returns : goal.returns
returns c = sealed_leading c.ports_keep_heads.ensures c.leading_is_moves.ensures
