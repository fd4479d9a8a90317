use Rattle.fw_sealed.proofs.Sealed.{links_stay_sealed}
use Rattle.fw_sealed.proofs.laws.links_stay_sealed.Goals as goal

pub returns : goal.returns
returns c = links_stay_sealed c.sent_stays.ensures
