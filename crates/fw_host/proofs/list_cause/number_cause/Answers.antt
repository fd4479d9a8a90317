use Rattle.std.proofs.Common.{sym}
use Rattle.fw_host.specs.ListCauses.{RefusesNumber}
use Rattle.fw_host.proofs.Causes.{of_field}
use Rattle.fw_host.proofs.list_cause.number_cause.Goals as goal

pub returns : goal.returns
returns c = of_field _ 0 _ RefusesNumber _ (sym c.in_ok-field.ensures.value) c.number_refusal.ensures
