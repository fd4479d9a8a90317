use Rattle.fw_sealport.proofs.Histories.{counters_rise}
use Rattle.fw_sealport.proofs.laws.counters_rise.Goals as goal

pub returns : goal.returns
returns g c = counters_rise g.P.Port.honest g.P.Port.acts g.D.JournalDevice
