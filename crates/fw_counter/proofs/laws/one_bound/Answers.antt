use Rattle.fw_counter.proofs.Records.{one_bound}
use Rattle.fw_counter.proofs.laws.one_bound.Goals as goal

pub returns : goal.returns
returns c = one_bound c.one_reading.ensures
