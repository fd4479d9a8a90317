use Rattle.fw_server.proofs.OnlyName.{only_active_name}
use Rattle.fw_server.proofs.laws.only_active_name.Goals as goal

pub returns : goal.returns
returns c = only_active_name
