use Rattle.fw_head.proofs.RowLaws.{one_row}
use Rattle.fw_head.proofs.laws.one_row.Goals as goal

pub returns : goal.returns
returns c = one_row c.one_hearing.ensures
