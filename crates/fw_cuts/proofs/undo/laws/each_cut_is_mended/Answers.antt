use Rattle.fw_cuts.proofs.Mending.{each_cut_is_mended}
use Rattle.fw_cuts.proofs.undo.laws.each_cut_is_mended.Goals as goal

pub returns : goal.returns
returns c = each_cut_is_mended
