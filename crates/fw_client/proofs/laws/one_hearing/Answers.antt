use Rattle.fw_client.proofs.Hearing.{one_hearing}
use Rattle.fw_client.proofs.laws.one_hearing.Goals as goal

pub returns : goal.returns
returns c = one_hearing c.one_name.ensures c.one_frame.ensures c.one_response.ensures
