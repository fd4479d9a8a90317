use Rattle.fw_audit.proofs.Bites.{one_reply}
use Rattle.fw_audit.proofs.laws.one_reply.Goals as goal

pub returns : goal.returns
returns c = one_reply c.one_answer.ensures
