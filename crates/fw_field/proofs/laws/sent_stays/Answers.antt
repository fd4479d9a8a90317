use Rattle.fw_field.proofs.Coming.{sent_stays}
use Rattle.fw_field.proofs.laws.sent_stays.Goals as goal

pub returns : goal.returns
returns c = sent_stays
