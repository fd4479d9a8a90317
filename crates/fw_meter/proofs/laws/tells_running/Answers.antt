use Rattle.fw_meter.proofs.Telling.{tells_running}
use Rattle.fw_meter.proofs.laws.tells_running.Goals as goal

pub returns : goal.returns
returns c = tells_running c.spelling_size.ensures c.short_spells.ensures c.one_spelling.ensures
