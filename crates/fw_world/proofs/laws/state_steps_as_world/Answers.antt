use Rattle.fw_world.proofs.Refinement.{state_steps}
use Rattle.fw_world.proofs.laws.state_steps_as_world.Goals as goal

pub returns : goal.returns
returns c = state_steps c.images_stay.ensures c.opening_offers.ensures c.states_follow.ensures c.admitted_opens.ensures c.row_keeps_goal.ensures c.stop_after_is_stop.ensures
