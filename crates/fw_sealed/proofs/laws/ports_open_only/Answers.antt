use Rattle.fw_port.specs.declared.port.NoReport.{NoReport}
use Rattle.fw_rollout.specs.declared.ended.Ended.{Ended}
use Rattle.fw_sealed.proofs.Ports.{ports_open_only}
use Rattle.fw_sealed.proofs.laws.ports_open_only.Goals as goal

pub returns : goal.returns
returns c = record { meters = ports_open_only NoReport; heads = ports_open_only Ended }
