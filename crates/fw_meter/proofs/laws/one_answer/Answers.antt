use Rattle.fw_meter.proofs.OneAnswer.{one_answer}
use Rattle.fw_meter.proofs.laws.one_answer.Goals as goal

pub returns : goal.returns
returns c = one_answer c.one_name.ensures c.one_frame.ensures c.one_request.ensures c.one_step.ensures
