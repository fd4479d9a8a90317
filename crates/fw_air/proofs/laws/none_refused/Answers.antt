use Rattle.fw_air.proofs.OneWorld.{none_refused}
use Rattle.fw_air.proofs.laws.none_refused.Goals as goal

pub returns : goal.returns
returns c = none_refused c.one_row.ensures c.one_turn.ensures c.one_answer.ensures c.one_stop.ensures
