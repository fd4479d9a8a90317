use Rattle.fw_field.proofs.Coming.{sent_comes}
use Rattle.fw_field.proofs.laws.sent_comes.Goals as goal

pub returns : goal.returns
returns c = sent_comes c.sent_stays.ensures
