use Rattle.fw_rollout.proofs.Rounds.{at_err}
use Rattle.fw_rollout.proofs.daemon.make_room.Goals as goal

pub returns-then-has_row-clause-row : goal.returns-then-has_row-clause-row
returns-then-has_row-clause-row c = at_err c.reserve.result c.if-has_row.true
