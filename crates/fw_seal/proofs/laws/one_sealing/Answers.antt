use Rattle.fw_seal.proofs.OpeningFacts.{one_sealing}
use Rattle.fw_seal.proofs.laws.one_sealing.Goals as goal

pub returns : goal.returns
returns c = one_sealing c.opens_what_was_sealed.ensures
