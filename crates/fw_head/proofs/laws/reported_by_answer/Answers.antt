use Rattle.fw_head.proofs.FailedIn.{reported_by_answer}
use Rattle.fw_head.proofs.laws.reported_by_answer.Goals as goal

pub returns : goal.returns
returns c = reported_by_answer c.failed_by_answer.ensures
