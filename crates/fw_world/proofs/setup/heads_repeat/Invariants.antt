use Rattle.std.proofs.Common.{◌≡◌, length}
use Rattle.fw_world.specs.Setup.{number_of_head, repeats}
use Rattle.fw_world.proofs.setup.heads_repeat.Given as goal

abbrev pub invariant-loop-first : goal.invariant-loop-first
invariant-loop-first l = repeats number_of_head l.rest ≡ repeats number_of_head l.heads

abbrev pub decreases-loop-first : goal.decreases-loop-first
decreases-loop-first l = length l.rest
