use Rattle.fw_audit.proofs.Bites.{no_more_replies}
use Rattle.fw_audit.proofs.laws.no_more_replies.Goals as goal

pub returns : goal.returns
returns c = no_more_replies
