use Rattle.fw_events.proofs.Lacking.{of_campaigns}
use Rattle.fw_events.proofs.laws.campaigns_lack_all.Goals as goal

pub returns : goal.returns
returns c = λ told known book. of_campaigns told known book.head book.campaigns
