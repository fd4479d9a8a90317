use Rattle.fw_apdu.proofs.Requests.{one_request_fault}
use Rattle.fw_apdu.proofs.laws.one_request_fault.Goals as goal

pub returns : goal.returns
returns c = one_request_fault c.one_spelling.ensures c.one_fault.ensures
