use Rattle.fw_cuts.proofs.OneSector.{one_sector_is_whole}
use Rattle.fw_cuts.proofs.undo.laws.one_sector_is_whole.Goals as goal

pub returns : goal.returns
returns c = one_sector_is_whole
