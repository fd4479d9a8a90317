use Rattle.fw_air.proofs.OneWorld.{one_world}
use Rattle.fw_air.proofs.laws.one_world.Goals as goal

pub returns : goal.returns
returns c = one_world c.one_row.ensures c.one_turn.ensures c.one_answer.ensures c.one_stop.ensures
