use Rattle.fw_head.proofs.SameRows.{goal_heard}
use Rattle.fw_head.proofs.laws.row_keeps_goal.Goals as goal

pub returns : goal.returns
returns c = goal_heard
