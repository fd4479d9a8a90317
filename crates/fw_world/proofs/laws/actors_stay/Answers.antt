use Rattle.fw_world.proofs.Staying.{actors_stay}
use Rattle.fw_world.proofs.laws.actors_stay.Goals as goal

pub returns : goal.returns
returns c = actors_stay
