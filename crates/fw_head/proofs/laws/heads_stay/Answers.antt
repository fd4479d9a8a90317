use Rattle.fw_head.proofs.HeadsStay.{heads_stay}
use Rattle.fw_head.proofs.laws.heads_stay.Goals as goal

pub returns : goal.returns
returns c = heads_stay c.states_follow.ensures c.images_stay.ensures c.opening_offers.ensures c.admitted_opens.ensures
