use Rattle.fw_aes.proofs.TagFacts.{sealed_opens}
use Rattle.fw_aes.proofs.laws.opens_what_was_sealed.Goals as goal

pub returns : goal.returns
returns c = sealed_opens
