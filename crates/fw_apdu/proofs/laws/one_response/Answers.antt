use Rattle.fw_apdu.proofs.Responses.{one_response}
use Rattle.fw_apdu.proofs.laws.one_response.Goals as goal

pub returns : goal.returns
returns c = one_response c.one_spelling.ensures
