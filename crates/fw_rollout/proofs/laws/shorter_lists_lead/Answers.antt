use Rattle.fw_rollout.proofs.Shorter.{shorter_lists_lead}
use Rattle.fw_rollout.proofs.laws.shorter_lists_lead.Goals as goal

pub returns : goal.returns
returns c = shorter_lists_lead
