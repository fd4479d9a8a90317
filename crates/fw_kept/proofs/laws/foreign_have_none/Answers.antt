use Rattle.fw_kept.proofs.Readings.{foreign_have_none}
use Rattle.fw_kept.proofs.laws.foreign_have_none.Goals as goal

pub returns : goal.returns
returns c = foreign_have_none c.one_reading.ensures c.one_record.ensures c.admitted_opens.ensures
