use Rattle.fw_world.proofs.Missing.{marks_may_be_missing}
use Rattle.fw_world.proofs.laws.marks_may_be_missing.Goals as goal

pub returns : goal.returns
returns c = marks_may_be_missing
