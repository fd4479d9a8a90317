use Rattle.fw_head.proofs.DoneIn.{reported_by_claim}
use Rattle.fw_head.proofs.laws.reported_by_claim.Goals as goal

pub returns : goal.returns
returns c = reported_by_claim c.done_by_claim.ensures
