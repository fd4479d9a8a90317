use Rattle.fw_cuts.proofs.Spellings.{one_write}
use Rattle.fw_cuts.proofs.undo.laws.one_write.Goals as goal

pub returns : goal.returns
returns c = one_write
