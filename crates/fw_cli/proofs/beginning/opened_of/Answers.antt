use Rattle.std.proofs.Common.{refl}
use Rattle.fw_cli.proofs.beginning.opened_of.Goals as goal

pub returns-clause-opened : goal.returns-clause-opened
returns-clause-opened g c = (_, refl, refl, refl)
