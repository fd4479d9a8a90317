use Rattle.std.proofs.Common.{refl}
use Rattle.fw_cli.proofs.beginning.check_all.Goals as goal

pub returns-in-Err-clause-refused : goal.returns-in-Err-clause-refused
returns-in-Err-clause-refused c = (c.in-Err.refusal, refl, c.in-Err.ensures.refused)
