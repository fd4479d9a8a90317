use Rattle.fw_sealport.proofs.Histories.{only_sealings}
use Rattle.fw_sealport.proofs.laws.only_sealings.Goals as goal

pub returns : goal.returns
returns g c = only_sealings g.P.Port.honest g.P.Port.acts g.D.JournalDevice
