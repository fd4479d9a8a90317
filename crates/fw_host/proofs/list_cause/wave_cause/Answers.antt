use Rattle.std.proofs.Common.{sym}
use Rattle.fw_host.specs.ListCauses.{RefusesWave}
use Rattle.fw_host.proofs.Causes.{of_field}
use Rattle.fw_host.proofs.list_cause.wave_cause.Goals as goal

pub returns : goal.returns
returns c = of_field _ 2 _ RefusesWave _ (sym c.in_ok-field.ensures.value) c.wave_refusal.ensures
