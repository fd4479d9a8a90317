use Rattle.fw_host.proofs.Causes.{of_fields}
use Rattle.fw_host.proofs.list_cause.note.Goals as goal

pub returns-in_default-clause-why : goal.returns-in_default-clause-why
returns-in_default-clause-why g c = of_fields _ _ _ _ c.fields_cause.ensures
