use Rattle.fw_sealed.proofs.Counting.{counters_rise}
use Rattle.fw_sealed.proofs.laws.counters_rise.Goals as goal

pub returns : goal.returns
returns c = counters_rise
