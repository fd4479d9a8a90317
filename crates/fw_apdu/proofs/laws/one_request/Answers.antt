use Rattle.fw_apdu.proofs.Requests.{one_request}
use Rattle.fw_apdu.proofs.laws.one_request.Goals as goal

pub returns : goal.returns
returns c = one_request c.one_spelling.ensures
