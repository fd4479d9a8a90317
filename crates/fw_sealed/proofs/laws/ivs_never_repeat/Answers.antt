use Rattle.fw_sealed.proofs.Counting.{ivs_never_repeat}
use Rattle.fw_sealed.proofs.laws.ivs_never_repeat.Goals as goal

pub returns : goal.returns
returns c = ivs_never_repeat c.counters_rise.ensures
