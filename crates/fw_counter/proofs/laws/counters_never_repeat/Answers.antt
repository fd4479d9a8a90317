use Rattle.fw_counter.proofs.Repeats.{counters_never_repeat}
use Rattle.fw_counter.proofs.laws.counters_never_repeat.Goals as goal

pub returns : goal.returns
returns c = counters_never_repeat
