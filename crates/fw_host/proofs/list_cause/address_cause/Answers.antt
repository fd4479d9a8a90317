use Rattle.std.proofs.Common.{sym}
use Rattle.fw_host.specs.ListCauses.{RefusesAddress}
use Rattle.fw_host.proofs.Causes.{of_field}
use Rattle.fw_host.proofs.list_cause.address_cause.Goals as goal

pub returns : goal.returns
returns c = of_field _ 1 _ (RefusesAddress c.args.own) _ (sym c.in_ok-field.ensures.value) c.address_refusal.ensures
