use Rattle.fw_sealed.proofs.Ports.{sealed_told}
use Rattle.fw_sealed.proofs.laws.sealed_told_is_true.Goals as goal

pub returns : goal.returns
returns c = sealed_told c.ports_keep_heads.ensures c.links_stay_sealed.ensures c.sealed_moves_are_moves.ensures c.told_is_true.ensures
