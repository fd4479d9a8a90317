use Rattle.fw_head.proofs.RowLaws.{done_by_claim}
use Rattle.fw_head.proofs.laws.done_by_claim.Goals as goal

pub returns : goal.returns
returns c = done_by_claim c.only_claimed.ensures
