use Rattle.fw_sealport.proofs.Histories.{only_what_opened}
use Rattle.fw_sealport.proofs.laws.only_what_opened.Goals as goal

pub returns : goal.returns
returns g c = only_what_opened g.P.Port.honest g.P.Port.acts g.D.JournalDevice
