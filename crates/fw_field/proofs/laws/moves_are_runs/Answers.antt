use Rattle.fw_field.proofs.Runs.{moves_are_runs}
use Rattle.fw_field.proofs.laws.moves_are_runs.Goals as goal

pub returns : goal.returns
returns c =
    moves_are_runs c.faultless.ensures c.turn_fault_is_stop.ensures c.states_follow.ensures c.images_stay.ensures c.reported_by_claim.ensures c.heads_stay.ensures c.state_steps_as_world.ensures c.marks_may_be_missing.ensures
