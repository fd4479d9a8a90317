use Rattle.fw_field.proofs.Coming.{answers_come}
use Rattle.fw_field.proofs.laws.answers_come.Goals as goal

pub returns : goal.returns
returns c = answers_come c.sent_stays.ensures
