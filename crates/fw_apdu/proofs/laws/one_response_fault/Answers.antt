use Rattle.fw_apdu.proofs.Responses.{one_response_fault}
use Rattle.fw_apdu.proofs.laws.one_response_fault.Goals as goal

pub returns : goal.returns
returns c = one_response_fault c.one_spelling.ensures c.one_fault.ensures
