use Rattle.fw_server.proofs.OnlyIdentifier.{only_identifier}
use Rattle.fw_server.proofs.laws.only_identifier.Goals as goal

pub returns : goal.returns
returns c = only_identifier
