use Rattle.fw_world.proofs.Kept.{every_step_is_safe}
use Rattle.fw_world.proofs.laws.every_step_is_safe.Goals as goal

pub returns : goal.returns
returns c = every_step_is_safe c.joined_size.ensures c.one_name.ensures c.spelling_size.ensures c.one_request.ensures c.tells_running.ensures
