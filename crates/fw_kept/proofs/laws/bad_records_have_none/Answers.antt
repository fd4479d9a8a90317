use Rattle.fw_kept.proofs.Readings.{bad_records_have_none}
use Rattle.fw_kept.proofs.laws.bad_records_have_none.Goals as goal

pub returns : goal.returns
returns c = bad_records_have_none c.one_reading.ensures c.failed_have_none.ensures c.admitted_opens.ensures
