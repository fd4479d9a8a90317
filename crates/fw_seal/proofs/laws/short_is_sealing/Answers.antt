use Rattle.fw_seal.proofs.SealingFacts.{short_is_sealing}
use Rattle.fw_seal.proofs.laws.short_is_sealing.Goals as goal

pub returns : goal.returns
returns c = short_is_sealing
