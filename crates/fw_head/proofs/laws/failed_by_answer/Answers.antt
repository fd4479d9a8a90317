use Rattle.fw_head.proofs.Failing.{failed_by_answer}
use Rattle.fw_head.proofs.laws.failed_by_answer.Goals as goal

pub returns : goal.returns
returns c = failed_by_answer c.one_hearing.ensures
