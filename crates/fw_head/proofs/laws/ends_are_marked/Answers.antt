use Rattle.fw_head.proofs.Joined.{ends_are_marked}
use Rattle.fw_head.proofs.laws.ends_are_marked.Goals as goal

pub returns : goal.returns
returns c = ends_are_marked c.states_follow.ensures c.images_stay.ensures
