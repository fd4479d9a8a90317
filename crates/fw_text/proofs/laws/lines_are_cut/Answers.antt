use Rattle.fw_text.proofs.LineLemmas.{lines_are_cut}
use Rattle.fw_text.proofs.laws.lines_are_cut.Goals as goal

pub returns : goal.returns
returns c = lines_are_cut
