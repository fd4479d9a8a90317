use Rattle.std.proofs.Common.{ap, ◌∙◌}
use Rattle.fw_world.specs.Setup.{repeats}
use Rattle.fw_world.specs.Parts.{number_of}
use Rattle.fw_world.proofs.Openings.{parts_own}
use Rattle.fw_world.proofs.world.World.from_parts.Goals as goal

pub invariant_of-result : goal.invariant_of-result
invariant_of-result c = record {
  state = parts_own c.args.parts.heads.items _ c.new.ensures;
  once = record { heads = ap (repeats number_of) c.new.ensures ∙ c.requires.once.heads; meters = ap (repeats number_of) c.new-2.ensures ∙ c.requires.once.meters };
}
