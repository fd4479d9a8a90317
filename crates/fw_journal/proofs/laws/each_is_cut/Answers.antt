use Rattle.fw_journal.proofs.Fates.{each_is_cut}
use Rattle.fw_journal.proofs.laws.each_is_cut.Goals as goal

pub returns : goal.returns
returns c = each_is_cut
