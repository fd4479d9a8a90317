use Rattle.fw_world.proofs.Staying.{sent_addressed}
use Rattle.fw_world.proofs.laws.sent_stays_addressed.Goals as goal

pub returns : goal.returns
returns c = sent_addressed
