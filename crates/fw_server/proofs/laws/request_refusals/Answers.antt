use Rattle.fw_server.proofs.RequestRefusals.{request_refusals}
use Rattle.fw_server.proofs.laws.request_refusals.Goals as goal

pub returns : goal.returns
returns c = request_refusals
