use Rattle.fw_host.proofs.Causes.{of_second}
use Rattle.fw_host.proofs.list_cause.fields_cause.Goals as goal

pub returns : goal.returns
returns c = of_second _ _ _ c.address_cause.ensures
