use Rattle.fw_world.specs.State.{StateStep}
use Rattle.fw_world.proofs.Following.{run_on}
use Rattle.fw_world.proofs.laws.run_goes_on.Goals as goal

pub returns : goal.returns
returns c = λ old mid new events event. run_on StateStep events event old mid new
