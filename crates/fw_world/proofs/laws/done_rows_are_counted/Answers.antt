use Rattle.fw_world.proofs.Counted.{done_rows_counted}
use Rattle.fw_world.proofs.laws.done_rows_are_counted.Goals as goal

pub returns : goal.returns
returns c = done_rows_counted c.admitted_opens.ensures
