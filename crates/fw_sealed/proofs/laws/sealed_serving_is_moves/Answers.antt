use Rattle.fw_sealed.proofs.Ports.{sealed_serving}
use Rattle.fw_sealed.proofs.laws.sealed_serving_is_moves.Goals as goal

pub returns : goal.returns
returns c = sealed_serving c.ports_keep_meters.ensures c.serving_is_moves.ensures
