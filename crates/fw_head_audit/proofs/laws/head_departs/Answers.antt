use Rattle.fw_head_audit.proofs.Rows.{head_departs}
use Rattle.fw_head_audit.proofs.laws.head_departs.Goals as goal

pub returns : goal.returns
returns c = head_departs
