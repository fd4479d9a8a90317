use Rattle.fw_air.proofs.Ticks.{ticks_each}
use Rattle.fw_air.proofs.laws.ticks_each.Goals as goal

pub returns : goal.returns
returns c = ticks_each
