use Rattle.fw_field.proofs.Serving.{rounds_are_taken}
use Rattle.fw_field.proofs.laws.rounds_are_taken.Goals as goal

pub returns : goal.returns
returns c = rounds_are_taken c.switches_are_told.ensures
