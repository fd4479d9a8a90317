use Rattle.fw_field.proofs.Runs.{reports_are_kept}
use Rattle.fw_field.proofs.laws.reports_are_kept.Goals as goal

pub returns : goal.returns
returns c =
    reports_are_kept c.faultless.ensures c.turn_fault_is_stop.ensures c.states_follow.ensures c.images_stay.ensures c.reported_by_claim.ensures c.heads_stay.ensures c.state_steps_as_world.ensures
