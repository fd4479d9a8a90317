use Rattle.fw_cli.proofs.OneAnswer.{one_answer}
use Rattle.fw_cli.proofs.laws.one_answer.Goals as goal

pub returns : goal.returns
returns c = one_answer c.one_answer.ensures
