use Rattle.std.proofs.Common.{◌≡◌, length}
use Rattle.fw_world.specs.Setup.{number_of_meter, repeats}
use Rattle.fw_world.proofs.setup.meters_repeat.Given as goal

abbrev pub invariant-loop-first : goal.invariant-loop-first
invariant-loop-first l = repeats number_of_meter l.rest ≡ repeats number_of_meter l.meters

abbrev pub decreases-loop-first : goal.decreases-loop-first
decreases-loop-first l = length l.rest
