use Rattle.fw_sealport.proofs.Histories.{what_is_sent_opens}
use Rattle.fw_sealport.proofs.laws.what_is_sent_opens.Goals as goal

pub returns : goal.returns
returns c = what_is_sent_opens c.short_is_sealing.ensures
